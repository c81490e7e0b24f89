-- Nothing is found wrong exactly where each log alone commits what all of them commit.
use Rattle.std.proofs.Common.{◌≡◌, ◌<◌, ◌==◌, ◌&&◌, ◌∙◌, ◌+◌, ◌++◌, ℕ, zero, suc, Bool, true, false}
use Rattle.std.proofs.Common.{get_or, List, [], ◌∷◌, length, Contains, Some, slice_get, flat_map}
use Rattle.std.proofs.Common.{refl, sym, ap, subst, inl, inr, arith}
use Rattle.std.proofs.lemmas.Bool.Decides.{Decides-eqb}
use Rattle.epx_types.proofs.Common.{cases_Bool, slice_get-get_or}
use Rattle.epx_types.proofs.Common.{slice_get_within, Instance, IsCommittedBy, Placed}
use Rattle.epx_types.proofs.Common.{IsRising-same, slice_get-from_Contains, Contains-slice_get}
use Rattle.epx_types.proofs.Common.{Contains-nil, Contains-head}
use Rattle.epx_types.specs.declared.id.Id.{Id}
use Rattle.epx_committed.specs.InstanceCounts.{AreNamedBy}
use Rattle.epx_merge.specs.Acceptance.{IsAccepted}
use Rattle.epx_merge.specs.LogLines.{placed_of, bad_lines_of}
use Rattle.epx_report.specs.ReportLines.{line_of}
use Rattle.epx_compare.specs.ComparisonLaws.{NothingFoundWhereLogsAreAlike}
use Rattle.epx_compare.specs.ComparisonLines.{lacks_data}
use Rattle.epx_compare.specs.Comparisons.{HasFindings, bad_text, difference_text, findings_text}
use Rattle.epx_compare.specs.Comparisons.{for_logs, gaps_text}
use Rattle.epx_compare.specs.Gaps.{Gap, gaps_of, has_line}
use Rattle.epx_compare.specs.GapLaws.{first_lacked}
use Rattle.epx_compare.proofs.GapLawLemmas.{AreGaps-gaps_of}
use Rattle.epx_compare.proofs.MemberLemmas.{list_any-found, list_any-from}
use Rattle.epx_compare.proofs.NoDifferenceLemmas.{append-left_nil, append-right_nil}
use Rattle.epx_compare.proofs.NoDifferenceLemmas.{append-both_nil, line_of-not_nil}
use Rattle.epx_compare.proofs.NoDifferenceLemmas.{SaysNothingDiffers-iff}
use Rattle.epx_compare.proofs.OwnLineLemmas.{Contains-own_to_all, Contains-all_to_own}
use Rattle.epx_versions.specs.SameInstances.{same_id}
use Rattle.epx_versions.specs.inner.EqualVersions.{same_id-decides}

-- ---- texts of logs that are empty

for_logs_none : (first count : ℕ) (text : ℕ → List ℕ)
    → ((i : ℕ) → i < count → text (first + i) ≡ []) → for_logs first count text ≡ []
for_logs_none first zero text none = refl
for_logs_none first (suc count) text none =
    let e : first + 0 ≡ first = omega arith in
    append-both_nil (text first) (for_logs (suc first) count text)
    (subst (λ (i : ℕ). text i ≡ []) e (none 0 (omega arith)))
    (for_logs_none (suc first) count text (λ i l.
    let e : first + suc i ≡ suc first + i = omega arith in
    subst (λ (i : ℕ). text i ≡ []) e (none (suc i) (omega (arith, l)))))

each_for_logs : (first count : ℕ) (text : ℕ → List ℕ) → for_logs first count text ≡ []
    → (i : ℕ) → i < count → text (first + i) ≡ []
each_for_logs first zero text none i l = absurd (omega (arith, l))
each_for_logs first (suc count) text none zero l =
    let e : first ≡ first + 0 = omega arith in
    subst (λ (i : ℕ). text i ≡ []) e
    (append-left_nil (text first) (for_logs (suc first) count text) none)
each_for_logs first (suc count) text none (suc i) l =
    let e : suc first + i ≡ first + suc i = omega arith in
    subst (λ (i : ℕ). text i ≡ []) e
    (each_for_logs (suc first) count text
    (append-right_nil (text first) (for_logs (suc first) count text) none) i (omega (arith, l)))

no_gap : (log : ℕ) (gaps : List Gap) → flat_map (λ gap. line_of (lacks_data log gap)) gaps ≡ []
    → gaps ≡ []
no_gap log [] none = refl
no_gap log (g ∷ gaps) none = absurd
    (line_of-not_nil (lacks_data log g)
    (append-left_nil (line_of (lacks_data log g))
    (flat_map (λ gap. line_of (lacks_data log gap)) gaps)
    none))

both_hold : (a b : Bool) → (a && b) ≡ true → (a ≡ true) × (b ≡ true)
both_hold true true e = (refl, refl)
both_hold true false e = absurd (cc e)
both_hold false b e = absurd (cc e)

module _ (lines : List Placed) (log : ℕ) where
  -- a line of the log has the instance
  line_found : (x : Id) → has_line lines log x ≡ true → (p : Placed) × Contains lines p
      × (p.place.log ≡ log) × (p.instance.id ≡ x)
  line_found x h =
      let p = list_any-found (λ (p : Placed). (p.place.log == log) && same_id p.instance.id x)
      lines h in
      let both = both_hold (p.0.place.log == log) (same_id p.0.instance.id x) p.2 in (
        p.0,
        p.1,
        (Decides-eqb p.0.place.log log).0 both.0,
        (same_id-decides p.0.instance.id x).0 both.1,
      )

  line_has : (p : Placed) → Contains lines p → p.place.log ≡ log
      → has_line lines log p.instance.id ≡ true
  line_has p among numbered =
      let first = (Decides-eqb p.place.log log).1 numbered in
      let second = (same_id-decides p.instance.id p.instance.id).1 refl in
      let test : ((p.place.log == log) && same_id p.instance.id p.instance.id) ≡ true =
      λ i. first i && second i in
      list_any-from
      (λ (q : Placed). (q.place.log == log) && same_id q.instance.id p.instance.id) lines p among
      test

module _ (logs : List (List ℕ)) (ids : List Id) (named : AreNamedBy (placed_of logs) ids)
    (m : List Instance) (accepted : IsAccepted logs m) where
  -- ---- a log that lacks nothing

  commits_all : (i : ℕ) (log : List ℕ) → slice_get logs i ≡ Some log
      → gaps_of (has_line (placed_of logs) i) ids ≡ [] → IsCommittedBy (placed_of (log ∷ [])) m
  commits_all i log at none = record {
    rising = accepted.committed.rising;
    given = λ e among.
        let p = accepted.committed.given e among in
        let q = line_found (placed_of logs) i p.0.instance.id
        (lines_all p.0.instance.id (named.whole p.0 p.1)) in
        let same = IsRising-same m accepted.committed.rising q.0.instance p.0.instance
        (accepted.committed.whole q.0 q.1) (accepted.committed.whole p.0 p.1) q.3 in
        let own = Contains-all_to_own logs i log at q.0 q.1 q.2 in
        (own.0, own.1, own.2 ∙ same ∙ p.2);
    whole = λ p among. let q = Contains-own_to_all logs i log at p among in
        subst (Contains m) q.3 (accepted.committed.whole q.0 q.1);
  } where
    lines_all : (x : Id) → Contains ids x → has_line (placed_of logs) i x ≡ true
    lines_all x among =
        elim (cases_Bool (has_line (placed_of logs) i x)) [
          | inl is ↦ is
          | inr lacks ↦
              let gap = ((AreGaps-gaps_of (has_line (placed_of logs) i) ids named.rising).lacked x
              among).0 lacks in
              absurd (Contains-nil gap.0 (subst (λ (gs : List Gap). Contains gs gap.0) none
              gap.1))
        ]

  lacks_none : (i : ℕ) (log : List ℕ) → slice_get logs i ≡ Some log
      → IsCommittedBy (placed_of (log ∷ [])) m → gaps_of (has_line (placed_of logs) i) ids ≡ []
  lacks_none i log at own = by (gaps_of (has_line (placed_of logs) i) ids) refl where
    by : (gaps : List Gap) → gaps_of (has_line (placed_of logs) i) ids ≡ gaps
        → gaps_of (has_line (placed_of logs) i) ids ≡ []
    by [] e = e
    by (g ∷ gaps) e =
        let are = AreGaps-gaps_of (has_line (placed_of logs) i) ids named.rising in
        let first = (are.ends g (subst (λ (gs : List Gap). Contains gs g) (sym e)
        (Contains-head g gaps))).first in
        let p = named.named (first_lacked g) first.among in
        let r = own.given p.0.instance (accepted.committed.whole p.0 p.1) in
        let q = Contains-own_to_all logs i log at r.0 r.1 in
        let is : q.0.instance.id ≡ first_lacked g =
        ap (λ (d : Instance). d.id) (q.3 ∙ r.2) ∙ p.2 in
        let has = subst (λ (x : Id). has_line (placed_of logs) i x ≡ true) is
        (line_has (placed_of logs) i q.0 q.1 q.2) in
        let lacks = first.lacks in absurd (cc (has, lacks))

  -- ---- all logs

  all_gaps_none : ((log : List ℕ) → Contains logs log → IsCommittedBy (placed_of (log ∷ [])) m)
      → gaps_text (length logs) (placed_of logs) ids ≡ []
  all_gaps_none each =
      for_logs_none 0 (length logs)
      (λ log. flat_map (λ gap. line_of (lacks_data log gap))
      (gaps_of (has_line (placed_of logs) log) ids))
      (λ i l.
      let at = slice_get-get_or logs i [] l in
      let none = lacks_none i (get_or logs i []) at
      (each (get_or logs i []) (Contains-slice_get logs i (get_or logs i []) at)) in
      let e : i ≡ 0 + i = omega arith in
      subst (λ (j : ℕ). flat_map (λ gap. line_of (lacks_data j gap))
      (gaps_of (has_line (placed_of logs) j) ids) ≡ []) e
      (ap (flat_map (λ gap. line_of (lacks_data i gap))) none))

  each_commits : gaps_text (length logs) (placed_of logs) ids ≡ [] → (log : List ℕ)
      → Contains logs log → IsCommittedBy (placed_of (log ∷ [])) m
  each_commits none log among =
      let at = slice_get-from_Contains logs log among in
      let text = each_for_logs 0 (length logs)
      (λ log. flat_map (λ gap. line_of (lacks_data log gap))
      (gaps_of (has_line (placed_of logs) log) ids))
      none at.0 (slice_get_within logs at.0 log at.1) in
      let e : 0 + at.0 ≡ at.0 = omega arith in
      let own = subst (λ (j : ℕ). flat_map (λ gap. line_of (lacks_data j gap))
      (gaps_of (has_line (placed_of logs) j) ids) ≡ []) e text in
      commits_all at.0 log at.1 (no_gap at.0 (gaps_of (has_line (placed_of logs) at.0) ids) own)

nothing_or_findings : (logs : List (List ℕ)) (ids : List Id) → AreNamedBy (placed_of logs) ids
    → ¬ HasFindings logs
    → findings_text (length logs) (placed_of logs) (bad_lines_of logs) ids ≡ []
nothing_or_findings logs ids named none =
    by (findings_text (length logs) (placed_of logs) (bad_lines_of logs) ids) refl where
      by : (text : List ℕ)
          → findings_text (length logs) (placed_of logs) (bad_lines_of logs) ids ≡ text
          → findings_text (length logs) (placed_of logs) (bad_lines_of logs) ids ≡ []
      by [] e = e
      by (c ∷ text) e = absurd
          (none (record { ids = ids; named = named; some = λ empty. cc (e, empty) }))

pub NothingFoundWhereLogsAreAlike-iff : NothingFoundWhereLogsAreAlike
NothingFoundWhereLogsAreAlike-iff logs fit few = (there, back) where
  there : ¬ HasFindings logs → (m : List Instance) × IsAccepted logs m
      × ((log : List ℕ) → Contains logs log → IsCommittedBy (placed_of (log ∷ [])) m)
  there none =
      let ids = few.0 in
      let bad = bad_text (bad_lines_of logs) in
      let differences = flat_map (difference_text (placed_of logs)) ids in
      let gaps = gaps_text (length logs) (placed_of logs) ids in
      let empty = nothing_or_findings logs ids few.1 none in
      let rest = append-right_nil bad (differences ++ gaps) empty in
      let m = (SaysNothingDiffers-iff logs ids fit few few.1).0
      (append-left_nil bad (differences ++ gaps) empty, append-left_nil differences gaps rest) in
      (m.0, m.1, each_commits logs ids few.1 m.0 m.1 (append-right_nil differences gaps rest))

  back : ((m : List Instance) × IsAccepted logs m
      × ((log : List ℕ) → Contains logs log → IsCommittedBy (placed_of (log ∷ [])) m))
      → ¬ HasFindings logs
  back (m, accepted, each) found =
      let ids = found.ids in
      let says = (SaysNothingDiffers-iff logs ids fit few found.named).1 (m, accepted) in
      let differences = flat_map (difference_text (placed_of logs)) ids in
      let gaps = gaps_text (length logs) (placed_of logs) ids in
      found.some (append-both_nil (bad_text (bad_lines_of logs)) (differences ++ gaps) says.0
      (append-both_nil differences gaps says.1
      (all_gaps_none logs ids found.named m accepted each)))
