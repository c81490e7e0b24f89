-- A comparison has no line that differs, and no bad one, exactly where logs are accepted.
use Rattle.std.proofs.Common.{◌≡◌, ◌≢◌, ◌↔◌, ℕ, ◌∷◌, ◌++◌, Bool, true, false, not, List, []}
use Rattle.std.proofs.Common.{Contains, flat_map, codes, refl, sym, ap, subst, inl, inr, arith, ◌∙◌}
use Rattle.epx_types.proofs.Common.{Decides, list_any, Contains-head, Contains-cons}
use Rattle.epx_types.proofs.Common.{Contains-cons_cases, Contains-filter, Contains-from_filter}
use Rattle.epx_types.proofs.Common.{passes-from_filter, Agree, Instance, Placed}
use Rattle.epx_types.specs.declared.fault.Fault.{Fault}
use Rattle.epx_types.specs.declared.fault.Fault.TheVariants.{TooManyLogs, LogTooLong, BadLine}
use Rattle.epx_types.specs.declared.fault.Fault.TheVariants.{TooManyInstances, Disagree, Read}
use Rattle.epx_types.specs.declared.fault.Fault.TheVariants.{BadBase, Memory, Write}
use Rattle.epx_types.specs.declared.id.Id.{Id}
use Rattle.serde_json.specs.Data.{Data}
use Rattle.serde_json.specs.Written.{compact_text}
use Rattle.epx_committed.proofs.InstanceCountLemmas.{ManyInstances-not_few}
use Rattle.epx_committed.specs.InstanceCounts.{AreNamedBy, FewInstances}
use Rattle.epx_merge.proofs.ExistenceLemmas.{IsAccepted-or_refused}
use Rattle.epx_merge.specs.Acceptance.{IsAccepted}
use Rattle.epx_merge.specs.LogLines.{BadLineAt, placed_of, bad_lines_of}
use Rattle.epx_merge.specs.Refusals.{FitLimits, IsRefusal}
use Rattle.epx_report.specs.ReportLines.{array_of, line_of, line_feed}
use Rattle.epx_compare.proofs.MemberLemmas.{list_any-found, list_any-from}
use Rattle.epx_compare.specs.ComparisonLaws.{SaysNothingDiffers}
use Rattle.epx_compare.specs.ComparisonLines.{bad_data, differs_data}
use Rattle.epx_compare.specs.Comparisons.{bad_text, difference_in, difference_text}
use Rattle.epx_compare.specs.Differences.{lines_of_id, some_differ, named_if, differing_members}
use Rattle.epx_compare.specs.Differences.{groups_of}
use Rattle.epx_versions.specs.SameInstances.{same_id, same_seq, same_deps, same_ops}
use Rattle.epx_versions.specs.inner.EqualVersions.{same_id-decides, same_seq-decides}
use Rattle.epx_versions.specs.inner.EqualVersions.{same_deps-decides}
use Rattle.epx_versions.specs.inner.EqualVersions.{same_ops-decides}

-- ---- texts that are empty

pub append-left_nil : {X : Type 0} (xs ys : List X) → xs ++ ys ≡ [] → xs ≡ []
append-left_nil [] ys none = refl
append-left_nil (x ∷ xs) ys none = absurd (cc none)

pub append-right_nil : {X : Type 0} (xs ys : List X) → xs ++ ys ≡ [] → ys ≡ []
append-right_nil [] ys none = none
append-right_nil (x ∷ xs) ys none = absurd (cc none)

pub append-both_nil : {X : Type 0} (xs ys : List X) → xs ≡ [] → ys ≡ [] → xs ++ ys ≡ []
append-both_nil xs ys first rest = λ i. first i ++ rest i

each_nil : {X Y : Type 0} (f : X → List Y) (xs : List X) → flat_map f xs ≡ [] → (x : X)
    → Contains xs x → f x ≡ []
each_nil f [] none x among = absurd (omega (arith, among.1))
each_nil f (y ∷ xs) none x among =
    elim (Contains-cons_cases y xs x among) [
      | inl same ↦ subst (λ z. f z ≡ []) same (append-left_nil (f y) (flat_map f xs) none)
      | inr later ↦ each_nil f xs (append-right_nil (f y) (flat_map f xs) none) x later
    ]

all_nil : {X Y : Type 0} (f : X → List Y) (xs : List X)
    → ((x : X) → Contains xs x → f x ≡ []) → flat_map f xs ≡ []
all_nil f [] none = refl
all_nil f (x ∷ xs) none =
    append-both_nil (f x) (flat_map f xs) (none x (Contains-head x xs))
    (all_nil f xs (λ y among. none y (Contains-cons x xs y among)))

-- a line ends with a line feed
pub line_of-not_nil : (ds : List Data) → ¬ (line_of ds ≡ [])
line_of-not_nil ds none =
    let rest =
    append-right_nil (compact_text (array_of ds)) (line_feed ∷ []) none in absurd (cc rest)

no_bad_line : (bad : List BadLineAt) → bad_text bad ≡ [] → bad ≡ []
no_bad_line [] none = refl
no_bad_line (b ∷ bad) none =
    absurd
    (line_of-not_nil (bad_data b) (append-left_nil (line_of (bad_data b)) (bad_text bad) none))

no_member : (members : List (List ℕ)) (x : Id) (own : List Placed)
    → difference_in members x own ≡ [] → members ≡ []
no_member [] x own none = refl
no_member (m ∷ members) x own none =
    absurd (line_of-not_nil (differs_data x (m ∷ members) (groups_of own)) none)

-- ---- lines that differ in no member

not_named : (b : Bool) (name : List ℕ) → named_if b name ≡ [] → b ≡ false
not_named true name none = absurd (cc none)
not_named false name none = refl

module _ {A : Type 0} (same : Instance → Instance → Bool) (of : Instance → A)
    (decides : (d e : Instance) → Decides (same d e) (of d ≡ of e)) where
  same_where_none_differ : (lines : List Placed) → some_differ same lines ≡ false → (p q : Placed)
      → Contains lines p → Contains lines q → of p.instance ≡ of q.instance
  same_where_none_differ lines none p q first second =
      by (same p.instance q.instance) refl where
        by : (b : Bool) → same p.instance q.instance ≡ b → of p.instance ≡ of q.instance
        by true equal = (decides p.instance q.instance).0 equal
        by false other =
            let here = list_any-from (λ (r : Placed). not (same p.instance r.instance)) lines q
            second (ap not other) in
            let some = list_any-from
            (λ (s : Placed). list_any (λ (r : Placed). not (same s.instance r.instance)) lines)
            lines p first here in
            absurd (cc (sym none ∙ some))

  none_differ : (lines : List Placed) → ((p q : Placed) → Contains lines p → Contains lines q
      → p.instance ≡ q.instance) → (b : Bool) → some_differ same lines ≡ b → b ≡ false
  none_differ lines agree false is = refl
  none_differ lines agree true is =
      let p = list_any-found
      (λ (s : Placed). list_any (λ (r : Placed). not (same s.instance r.instance)) lines)
      lines is in
      let q = list_any-found (λ (r : Placed). not (same p.0.instance r.instance)) lines p.2 in
      let yes = (decides p.0.instance q.0.instance).1 (ap of (agree p.0 q.0 p.1 q.1)) in
      absurd (cc (ap not (sym yes) ∙ q.2))

same_instances : (lines : List Placed) → differing_members lines ≡ [] → (p q : Placed)
    → Contains lines p → Contains lines q → p.instance.id ≡ q.instance.id
    → p.instance ≡ q.instance
same_instances lines none p q first second ids =
    let seq_name = named_if (some_differ same_seq lines) (codes "seq") in
    let deps_name = named_if (some_differ same_deps lines) (codes "deps") in
    let ops_name = named_if (some_differ same_ops lines) (codes "ops") in
    let no_seq = not_named (some_differ same_seq lines) (codes "seq")
    (append-left_nil seq_name (deps_name ++ ops_name) none) in
    let rest = append-right_nil seq_name (deps_name ++ ops_name) none in
    let no_deps = not_named (some_differ same_deps lines) (codes "deps")
    (append-left_nil deps_name ops_name rest) in
    let no_ops = not_named (some_differ same_ops lines) (codes "ops")
    (append-right_nil deps_name ops_name rest) in
    let seqs = same_where_none_differ same_seq (λ e. e.seq) same_seq-decides lines no_seq p q first
    second in
    let deps =
    same_where_none_differ same_deps (λ e. e.deps) same_deps-decides lines no_deps p q first
    second in
    let ops = same_where_none_differ same_ops (λ e. e.ops) same_ops-decides lines no_ops p q first
    second in
    λ i. record { id = ids i; seq = seqs i; deps = deps i; ops = ops i }

no_differing : (lines : List Placed) → ((p q : Placed) → Contains lines p → Contains lines q
    → p.instance ≡ q.instance) → differing_members lines ≡ []
no_differing lines agree =
    let seq = none_differ same_seq (λ e. e.seq) same_seq-decides lines agree
    (some_differ same_seq lines) refl in
    let deps = none_differ same_deps (λ e. e.deps) same_deps-decides lines agree
    (some_differ same_deps lines) refl in
    let ops = none_differ same_ops (λ e. e.ops) same_ops-decides lines agree
    (some_differ same_ops lines) refl in
    λ i. named_if (seq i) (codes "seq") ++ (named_if (deps i) (codes "deps")
    ++ named_if (ops i) (codes "ops"))

-- ---- agreement

agree_where_nothing_differs : (lines : List Placed) (ids : List Id) → AreNamedBy lines ids
    → flat_map (difference_text lines) ids ≡ [] → Agree lines
agree_where_nothing_differs lines ids named none p q first second same =
    let x = p.instance.id in
    let own = lines_of_id lines x in
    let silent = each_nil (difference_text lines) ids none x (named.whole p first) in
    same_instances own (no_member (differing_members own) x own silent) p q
    (own_line p first refl) (own_line q second (sym same)) same
  where
    own_line : (r : Placed) → Contains lines r → r.instance.id ≡ p.instance.id
        → Contains (lines_of_id lines p.instance.id) r
    own_line r among is = Contains-filter (λ (s : Placed). same_id s.instance.id p.instance.id)
        lines r among ((same_id-decides r.instance.id p.instance.id).1 is)

nothing_differs_where_agree : (lines : List Placed) (ids : List Id) → Agree lines
    → flat_map (difference_text lines) ids ≡ []
nothing_differs_where_agree lines ids agree = all_nil (difference_text lines) ids (λ x among.
    ap (λ ms. difference_in ms x (lines_of_id lines x)) (no_differing (lines_of_id lines x)
    (together x))) where
      together : (x : Id) (p q : Placed) → Contains (lines_of_id lines x) p
          → Contains (lines_of_id lines x) q → p.instance ≡ q.instance
      together x p q first second =
          let own = λ (s : Placed). same_id s.instance.id x in
          let here = (same_id-decides p.instance.id x).0 (passes-from_filter own lines p first) in
          let there = (same_id-decides q.instance.id x).0 (passes-from_filter own lines q second) in
          agree p q (Contains-from_filter own lines p first)
          (Contains-from_filter own lines q second) (here ∙ sym there)

-- ---- acceptance

not_refused : (logs : List (List ℕ)) → FitLimits logs → FewInstances (placed_of logs)
    → bad_lines_of logs ≡ [] → Agree (placed_of logs) → (f : Fault) → f ≢ Memory
    → ¬ IsRefusal logs f
not_refused logs fit few clean agree Memory other r = other refl
not_refused logs fit few clean agree TooManyLogs other r = omega (arith, r, fit.0)
not_refused logs fit few clean agree (LogTooLong log) other r = let first = r.1 in
    omega (arith, fit.1 log first.long.0 first.long.1, first.long.2)
not_refused logs fit few clean agree (BadLine place why) other r = let some = r.1.1 in
    absurd (cc (sym clean ∙ some))
not_refused logs fit few clean agree TooManyInstances other r =
    ManyInstances-not_few (placed_of logs) few r.1
not_refused logs fit few clean agree (Disagree id first second) other r = let d = r.2.2 in
    d.differ.1 (agree r.2.0 r.2.1 d.has_first d.has_second d.differ.0)
not_refused logs fit few clean agree (Read log) other r = r
not_refused logs fit few clean agree Write other r = r
not_refused logs fit few clean agree (BadBase line) other r = r

accepted_where_agree : (logs : List (List ℕ)) → FitLimits logs → FewInstances (placed_of logs)
    → bad_lines_of logs ≡ [] → Agree (placed_of logs) → (m : List Instance) × IsAccepted logs m
accepted_where_agree logs fit few clean agree =
    elim (IsAccepted-or_refused logs) [
      | inl accepted ↦ accepted
      | inr refused ↦ absurd
          (not_refused logs fit few clean agree refused.0 refused.1 refused.2)
    ]

pub SaysNothingDiffers-iff : (logs : List (List ℕ)) (ids : List Id) → FitLimits logs
    → FewInstances (placed_of logs) → AreNamedBy (placed_of logs) ids
    → SaysNothingDiffers logs ids ↔ ((m : List Instance) × IsAccepted logs m)
SaysNothingDiffers-iff logs ids fit few named = (
  λ says. accepted_where_agree logs fit few (no_bad_line (bad_lines_of logs) says.0)
      (agree_where_nothing_differs (placed_of logs) ids named says.1),
  λ accepted. (
    ap bad_text accepted.1.whole.1,
    nothing_differs_where_agree (placed_of logs) ids accepted.1.agree,
  ),
)
