-- Logs with the same lines are accepted alike, and commit the same map.
use Rattle.std.proofs.Common.{◌≡◌, ◌∙◌, ◌++◌, ℕ, suc, List, [], ◌∷◌, Contains, Result, Ok, Err}
use Rattle.std.proofs.Common.{flat_map, refl, sym, ap, subst, inl, inr}
use Rattle.std.proofs.lemmas.Grind.{flat_map-append}
use Rattle.epx_types.proofs.Common.{Contains-append_left, Contains-append_right}
use Rattle.epx_types.proofs.Common.{Contains-append_cases, Agree, IsCommittedBy, Instance, Placed}
use Rattle.epx_types.proofs.Common.{Contains-nil, Contains-head, Contains-cons, Contains-cons_cases}
use Rattle.epx_types.specs.declared.fault.Why.{Why}
use Rattle.epx_types.specs.declared.place.Place.{Place}
use Rattle.epx_lines.specs.Lines.{lines_of}
use Rattle.epx_lines.specs.Meaning.{meaning_of}
use Rattle.epx_lines.specs.declared.Line.{Line}
use Rattle.epx_lines.specs.declared.Line.TheVariants.{Blank, Entry}
use Rattle.epx_committed.specs.InstanceCounts.{FewInstances}
use Rattle.epx_merge.specs.Acceptance.{IsAccepted}
use Rattle.epx_merge.specs.LogLines.{MeaningAt, BadLineAt, meanings_in, meanings_from}
use Rattle.epx_merge.specs.LogLines.{placed_at, placed_of, bad_lines_at, bad_lines_of}
use Rattle.epx_merge.specs.Refusals.{FitLimits}
use Rattle.epx_answer_laws.specs.SameLineLaws.{HaveLine, HaveLinesOf}

-- ---- what comes of the lines of logs, at each place

module _ (A : Type 0) (at : Place → Result Line Why → List A) where
  abbrev among : List MeaningAt → List A
  among lines = flat_map (λ l. at l.place l.meaning) lines

  from_lines : (n k : ℕ) (ls : List (List ℕ)) (x : A) → Contains (among (meanings_in n k ls)) x
      → (line : List ℕ) × Contains ls line × (p : Place) × Contains (at p (meaning_of line)) x
  from_lines n k [] x h = absurd (Contains-nil x h)
  from_lines n k (l ∷ ls) x h =
      let place : Place = record { log = n; line = k } in
      let later = among (meanings_in n (suc k) ls) in
      elim (Contains-append_cases (at place (meaning_of l)) later x h) [
        | inl first ↦ (l, Contains-head l ls, place, first)
        | inr rest ↦ let p = from_lines n (suc k) ls x rest in
            (p.0, Contains-cons l ls p.0 p.1, p.2, p.3)
      ]

  -- what comes of a line at any place comes of the lines
  to_lines : (Q : A → Type 0) (n k : ℕ) (ls : List (List ℕ)) (line : List ℕ) → Contains ls line
      → ((p : Place) → (y : A) × Contains (at p (meaning_of line)) y × Q y)
      → (y : A) × Contains (among (meanings_in n k ls)) y × Q y
  to_lines Q n k [] line h give = absurd (Contains-nil line h)
  to_lines Q n k (l ∷ ls) line h give =
      let place : Place = record { log = n; line = k } in
      let here = at place (meaning_of l) in
      let later = among (meanings_in n (suc k) ls) in
      elim (Contains-cons_cases l ls line h) [
        | inl same ↦
            let y = give place in
            let there = subst (λ k. Contains (at place (meaning_of k)) y.0) (sym same) y.1 in
            (y.0, Contains-append_left here later y.0 there, y.2)
        | inr rest ↦ let y = to_lines Q n (suc k) ls line rest give in
            (y.0, Contains-append_right here later y.0 y.1, y.2)
      ]

  split_log : (n : ℕ) (log : List ℕ) (logs : List (List ℕ))
      → among (meanings_from n (log ∷ logs))
      ≡ among (meanings_in n 1 (lines_of log)) ++ among (meanings_from (suc n) logs)
  split_log n log logs =
      flat_map-append (λ (l : MeaningAt). at l.place l.meaning) (meanings_in n 1 (lines_of log))
      (meanings_from (suc n) logs)

  from_logs : (n : ℕ) (logs : List (List ℕ)) (x : A) → Contains (among (meanings_from n logs)) x
      → (line : List ℕ) × HaveLine logs line × (p : Place) × Contains (at p (meaning_of line)) x
  from_logs n [] x h = absurd (Contains-nil x h)
  from_logs n (log ∷ logs) x h =
      elim (Contains-append_cases (among (meanings_in n 1 (lines_of log)))
      (among (meanings_from (suc n) logs)) x
      (subst (λ xs. Contains xs x) (split_log n log logs) h)) [
        | inl first ↦ let p = from_lines n 1 (lines_of log) x first in
            (p.0, (log, Contains-head log logs, p.1), p.2, p.3)
        | inr rest ↦ let p = from_logs (suc n) logs x rest in
            (p.0, (p.1.0, Contains-cons log logs p.1.0 p.1.1, p.1.2), p.2, p.3)
      ]

  to_logs : (Q : A → Type 0) (n : ℕ) (logs : List (List ℕ)) (line : List ℕ) → HaveLine logs line
      → ((p : Place) → (y : A) × Contains (at p (meaning_of line)) y × Q y)
      → (y : A) × Contains (among (meanings_from n logs)) y × Q y
  to_logs Q n [] line h give = absurd (Contains-nil h.0 h.1)
  to_logs Q n (log ∷ logs) line h give =
      let own = among (meanings_in n 1 (lines_of log)) in
      let later = among (meanings_from (suc n) logs) in
      let back = sym (split_log n log logs) in
      elim (Contains-cons_cases log logs h.0 h.1) [
        | inl same ↦
            let there = subst (λ k. Contains (lines_of k) line) (sym same) h.2 in
            let y = to_lines Q n 1 (lines_of log) line there give in
            (y.0, subst (λ xs. Contains xs y.0) back (Contains-append_left own later y.0 y.1), y.2)
        | inr rest ↦
            let y = to_logs Q (suc n) logs line (h.0, rest, h.2) give in
            (y.0, subst (λ xs. Contains xs y.0) back (Contains-append_right own later y.0 y.1), y.2)
      ]

-- ---- a line says the same at each place

placed_anywhere : (m : Result Line Why) (a b : Place) (p : Placed) → Contains (placed_at a m) p
    → (q : Placed) × Contains (placed_at b m) q × (q.instance ≡ p.instance)
placed_anywhere (Ok Blank) a b p h = absurd (Contains-nil p h)
placed_anywhere (Ok (Entry e)) a b p h =
    let one : Placed = record { place = b; instance = e } in
    elim (Contains-cons_cases (record { place = a; instance = e }) [] p h) [
      | inl same ↦ (one, Contains-head one [], ap (λ (r : Placed). r.instance) same)
      | inr none ↦ absurd (Contains-nil p none)
    ]
placed_anywhere (Err why) a b p h = absurd (Contains-nil p h)

bad_anywhere : (m : Result Line Why) (a b : Place) (p : BadLineAt) → Contains (bad_lines_at a m) p
    → (q : BadLineAt) × Contains (bad_lines_at b m) q × Unit {0}
bad_anywhere (Ok l) a b p h = absurd (Contains-nil p h)
bad_anywhere (Err why) a b p h =
    let one : BadLineAt = record { place = b; why = why } in
    (one, Contains-head one [], tt)

nil_from_none : {A : Type 0} (xs : List A) → ((x : A) → ¬ Contains xs x) → xs ≡ []
nil_from_none [] none = refl
nil_from_none (x ∷ xs) none = absurd (none x (Contains-head x xs))

-- ---- logs with the lines of others

module _ (logs other : List (List ℕ)) (has : HaveLinesOf logs other) where
  instance_of_line : (p : Placed) → Contains (placed_of other) p
      → (q : Placed) × Contains (placed_of logs) q × (q.instance ≡ p.instance)
  instance_of_line p h =
      let line = from_logs Placed placed_at 0 other p h in
      to_logs Placed placed_at (λ q. q.instance ≡ p.instance) 0 logs line.0 (has line.0 line.1)
      (λ place. placed_anywhere (meaning_of line.0) line.2 place p line.3)

  none_bad : bad_lines_of logs ≡ [] → bad_lines_of other ≡ []
  none_bad none = nil_from_none (bad_lines_of other) (λ p h.
      let line = from_logs BadLineAt bad_lines_at 0 other p h in
      let q = to_logs BadLineAt bad_lines_at (λ q. Unit {0}) 0 logs line.0 (has line.0 line.1)
      (λ place. bad_anywhere (meaning_of line.0) line.2 place p line.3) in
      Contains-nil q.0 (subst (λ bad. Contains bad q.0) none q.1))

  -- they commit all that the others commit
  pub Contains-same_lines : (m n : List Instance) → IsAccepted other m → IsAccepted logs n
      → (e : Instance) → Contains m e → Contains n e
  Contains-same_lines m n accepted more e h =
      let p = accepted.committed.given e h in
      let q = instance_of_line p.0 p.1 in
      subst (Contains n) (q.2 ∙ p.2) (more.committed.whole q.0 q.1)

module _ (logs other : List (List ℕ)) (has : HaveLinesOf logs other)
    (has' : HaveLinesOf other logs) where
  few : FewInstances (placed_of logs) → FewInstances (placed_of other)
  few small = (
    small.0,
    record {
      rising = small.1.rising;
      whole = λ p h. let q = instance_of_line logs other has p h in
          subst (Contains small.0) (ap (λ (i : Instance). i.id) q.2) (small.1.whole q.0 q.1);
      named = λ x h. let p = small.1.named x h in
          let q = instance_of_line other logs has' p.0 p.1 in
          (q.0, q.1, ap (λ (i : Instance). i.id) q.2 ∙ p.2);
    },
    small.2,
  )

  agree : Agree (placed_of logs) → Agree (placed_of other)
  agree agrees p q h k same =
      let p' = instance_of_line logs other has p h in
      let q' = instance_of_line logs other has q k in
      sym p'.2 ∙ agrees p'.0 q'.0 p'.1 q'.1 (ap (λ (i : Instance). i.id) p'.2 ∙ same
      ∙ ap (λ (i : Instance). i.id) (sym q'.2)) ∙ q'.2

  committed : (m : List Instance) → IsCommittedBy (placed_of logs) m
      → IsCommittedBy (placed_of other) m
  committed m by = record {
    rising = by.rising;
    given = λ e h. let p = by.given e h in
        let q = instance_of_line other logs has' p.0 p.1 in (q.0, q.1, q.2 ∙ p.2);
    whole = λ p h. let q = instance_of_line logs other has p h in
        subst (Contains m) q.2 (by.whole q.0 q.1);
  }

  pub IsAccepted-same_lines : FitLimits other → (m : List Instance) → IsAccepted logs m
      → IsAccepted other m
  IsAccepted-same_lines fit m accepted = record {
    whole = (fit, none_bad logs other has accepted.whole.1);
    small = few accepted.small;
    agree = agree accepted.agree;
    committed = committed m accepted.committed;
  }
