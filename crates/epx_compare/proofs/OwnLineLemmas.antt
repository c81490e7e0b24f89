-- The lines of one log, alone and among the lines of all logs.
use Rattle.std.proofs.Common.{◌≡◌, ◌∙◌, ◌+◌, ◌++◌, ℕ, zero, suc, List, [], ◌∷◌, Result, Ok, Err}
use Rattle.std.proofs.Common.{Contains, slice_get, append-nil, refl, sym, ap, subst, inl, inr}
use Rattle.std.proofs.Common.{arith, Some}
use Rattle.std.proofs.lemmas.Grind.{flat_map-append}
use Rattle.epx_types.proofs.Common.{Contains-append_left, Contains-append_right}
use Rattle.epx_types.proofs.Common.{Contains-append_cases, Placed, Contains-nil, Contains-head}
use Rattle.epx_types.proofs.Common.{Contains-cons_cases}
use Rattle.epx_types.specs.declared.place.Place.{Place}
use Rattle.epx_types.specs.declared.fault.Why.{Why}
use Rattle.epx_lines.specs.Lines.{lines_of}
use Rattle.epx_lines.specs.Meaning.{meaning_of}
use Rattle.epx_lines.specs.declared.Line.{Line}
use Rattle.epx_lines.specs.declared.Line.TheVariants.{Blank, Entry}
use Rattle.epx_merge.specs.LogLines.{MeaningAt, meanings_in, meanings_from, placed_at}
use Rattle.epx_merge.specs.LogLines.{placed_among, placed_of}

-- a line commits the same at another place
placed_one : (m : Result Line Why) (a b : Place) (p : Placed) → Contains (placed_at a m) p
    → (p.place ≡ a) × (q : Placed) × Contains (placed_at b m) q × (q.instance ≡ p.instance)
placed_one (Ok Blank) a b p h = absurd (Contains-nil p h)
placed_one (Ok (Entry e)) a b p h =
    elim (Contains-cons_cases (record { place = a; instance = e }) [] p h) [
      | inl same ↦ (
        ap (λ (r : Placed). r.place) (sym same),
        record { place = b; instance = e },
        Contains-head (record { place = b; instance = e }) [],
        ap (λ (r : Placed). r.instance) same,
      )
      | inr none ↦ absurd (Contains-nil p none)
    ]
placed_one (Err why) a b p h = absurd (Contains-nil p h)

-- so do the lines of a log under another number
placed_in : (n n' k : ℕ) (ls : List (List ℕ)) (p : Placed)
    → Contains (placed_among (meanings_in n k ls)) p
    → (p.place.log ≡ n) × (q : Placed) × Contains (placed_among (meanings_in n' k ls)) q
    × (q.instance ≡ p.instance)
placed_in n n' k [] p h = absurd (Contains-nil p h)
placed_in n n' k (l ∷ ls) p h =
    let a : Place = record { log = n; line = k } in
    let b : Place = record { log = n'; line = k } in
    let here = placed_at b (meaning_of l) in
    let rest = placed_among (meanings_in n' (suc k) ls) in
    elim (Contains-append_cases (placed_at a (meaning_of l))
    (placed_among (meanings_in n (suc k) ls)) p h) [
      | inl first ↦ let q = placed_one (meaning_of l) a b p first in
          (ap (λ (r : Place). r.log) q.0, q.1, Contains-append_left here rest q.1 q.2, q.3)
      | inr later ↦ let q = placed_in n n' (suc k) ls p later in
          (q.0, q.1, Contains-append_right here rest q.1 q.2, q.3)
    ]

placed_among-append : (xs ys : List MeaningAt)
    → placed_among (xs ++ ys) ≡ placed_among xs ++ placed_among ys
placed_among-append xs ys = flat_map-append (λ (l : MeaningAt). placed_at l.place l.meaning) xs ys

-- ---- among the lines of all logs

placed_from : (n : ℕ) (logs : List (List ℕ)) (i : ℕ) (log : List ℕ) → slice_get logs i ≡ Some log
    → (p : Placed) → Contains (placed_among (meanings_in (n + i) 1 (lines_of log))) p
    → Contains (placed_among (meanings_from n logs)) p
placed_from n [] i log at p h = absurd (cc at)
placed_from n (l ∷ logs) zero log at p h =
    let same : log ≡ l = cc at in
    let e : n + 0 ≡ n = omega arith in
    let own = placed_among (meanings_in n 1 (lines_of l)) in
    subst (λ (ps : List Placed). Contains ps p)
    (sym (placed_among-append (meanings_in n 1 (lines_of l)) (meanings_from (suc n) logs)))
    (Contains-append_left own (placed_among (meanings_from (suc n) logs)) p
    (subst (λ (j : ℕ). Contains (placed_among (meanings_in j 1 (lines_of l))) p) e
    (subst (λ (k : List ℕ). Contains (placed_among (meanings_in (n + 0) 1 (lines_of k))) p) same
    h)))
placed_from n (l ∷ logs) (suc i) log at p h =
    let e : n + suc i ≡ suc n + i = omega arith in
    subst (λ (ps : List Placed). Contains ps p)
    (sym (placed_among-append (meanings_in n 1 (lines_of l)) (meanings_from (suc n) logs)))
    (Contains-append_right (placed_among (meanings_in n 1 (lines_of l)))
    (placed_among (meanings_from (suc n) logs)) p
    (placed_from (suc n) logs i log at p
    (subst (λ (j : ℕ). Contains (placed_among (meanings_in j 1 (lines_of log))) p) e h)))

-- a line is one of the log whose number its place has
abbrev IsLineOf : ℕ → List (List ℕ) → Placed → ℕ → List ℕ → Type 0
IsLineOf n logs p i log = (slice_get logs i ≡ Some log) × (p.place.log ≡ n + i)
    × Contains (placed_among (meanings_in (n + i) 1 (lines_of log))) p

placed_log : (n : ℕ) (logs : List (List ℕ)) (p : Placed)
    → Contains (placed_among (meanings_from n logs)) p
    → (i : ℕ) × (log : List ℕ) × IsLineOf n logs p i log
placed_log n [] p h = absurd (Contains-nil p h)
placed_log n (l ∷ logs) p h =
    let own = placed_among (meanings_in n 1 (lines_of l)) in
    let later = placed_among (meanings_from (suc n) logs) in
    let apart = subst (λ (ps : List Placed). Contains ps p)
    (placed_among-append (meanings_in n 1 (lines_of l)) (meanings_from (suc n) logs)) h in
    elim (Contains-append_cases own later p apart) [
      | inl here ↦
          let e : n ≡ n + 0 = omega arith in (
            0,
            l,
            (
              refl,
              (placed_in n n 1 (lines_of l) p here).0 ∙ e,
              subst (λ (j : ℕ). Contains (placed_among (meanings_in j 1 (lines_of l))) p) e here,
            ),
          )
      | inr there ↦
          let on = placed_log (suc n) logs p there in
          let e : suc n + on.0 ≡ n + suc on.0 = omega arith in (
            suc on.0,
            on.1,
            (
              on.2.0,
              on.2.1 ∙ e,
              subst (λ (j : ℕ). Contains (placed_among (meanings_in j 1 (lines_of on.1))) p) e
                  on.2.2,
            ),
          )
    ]

-- ---- one log alone

module _ (logs : List (List ℕ)) (i : ℕ) (log : List ℕ) (at : slice_get logs i ≡ Some log) where
  alone : placed_of (log ∷ []) ≡ placed_among (meanings_in 0 1 (lines_of log))
  alone = ap placed_among (append-nil (meanings_in 0 1 (lines_of log)))

  -- what it commits alone it commits among all
  pub Contains-own_to_all : (p : Placed) → Contains (placed_of (log ∷ [])) p
      → (q : Placed) × Contains (placed_of logs) q × (q.place.log ≡ i)
      × (q.instance ≡ p.instance)
  Contains-own_to_all p h =
      let own = subst (λ (ps : List Placed). Contains ps p) alone h in
      let q = placed_in 0 i 1 (lines_of log) p own in
      let e : i ≡ 0 + i = omega arith in (
        q.1,
        placed_from 0 logs i log at q.1
            (subst (λ (j : ℕ). Contains (placed_among (meanings_in j 1 (lines_of log))) q.1) e q.2),
        (placed_in i 0 1 (lines_of log) q.1 q.2).0,
        q.3,
      )

  -- and the other way round
  pub Contains-all_to_own : (q : Placed) → Contains (placed_of logs) q → q.place.log ≡ i
      → (p : Placed) × Contains (placed_of (log ∷ [])) p × (p.instance ≡ q.instance)
  Contains-all_to_own q h numbered =
      let found = placed_log 0 logs q h in
      let e : found.0 ≡ i = omega (arith, numbered, found.2.1) in
      let here = found.2.0 in
      let one : found.1 ≡ log = cc (here, at, e) in
      let own = placed_in (0 + found.0) 0 1 (lines_of found.1) q found.2.2 in
      let moved = subst (λ (k : List ℕ). Contains (placed_among (meanings_in 0 1 (lines_of k)))
      own.1) one own.2 in
      (own.1, subst (λ (ps : List Placed). Contains ps own.1) (sym alone) moved, own.3)
