-- The greatest number among the commands from which a chain of conflicts leads to a position.
use Rattle.std.proofs.Common.{◌≡◌, ◌⊎◌, inl, inr, ℕ, zero, suc, max, ◌<◌, ◌≤◌, List, [], ◌∷◌}
use Rattle.std.proofs.Common.{◌++◌, length, get_or, Some, slice_get, slice_index_or}
use Rattle.std.proofs.Common.{refl, sym, ap, subst, ◌∙◌, arith}
use Rattle.std.proofs.lemmas.Option.{slice_get-get_or}
use Rattle.epx_types.proofs.Common.{slice_get_within, cases_lt, length_push, Conflict, ConflictAt}
use Rattle.epx_types.proofs.Common.{Conflict-cases, Contains-nil, Contains-head}
use Rattle.epx_types.proofs.Common.{Contains-cons, Contains-cons_cases, Contains-slice_get}
use Rattle.epx_types.proofs.Common.{slice_get-from_Contains}
use Rattle.epx_types.specs.declared.op.Op.{Op}
use Rattle.epx_apply.specs.between.KeyTables.{IsLeastAbove}
use Rattle.epx_linear.specs.LateCalls.{ConflictsUpTo}

-- ---- chains

module _ (commands : List (List Op)) where
  pub ConflictsUpTo-refl : (j : ℕ) → ConflictsUpTo commands j j
  ConflictsUpTo-refl j = ([], tt, Contains-head j [])

  -- a chain with one more conflict at its end
  pub ConflictsUpTo-push : (i k j : ℕ) → ConflictsUpTo commands i k → k < j
      → ConflictAt commands k j
      → ConflictsUpTo commands i j
  ConflictsUpTo-push i k j (is, climbs, h) less conflict =
      (k ∷ is, (less, conflict, climbs), Contains-cons j (k ∷ is) i h)

  pub ConflictsUpTo-cases : (i j : ℕ) → ConflictsUpTo commands i j
      → (i ≡ j) ⊎ ((k : ℕ) × (k < j) × ConflictAt commands k j × ConflictsUpTo commands i k)
  ConflictsUpTo-cases i j ([], climbs, h) =
      elim (Contains-cons_cases j [] i h) [
        | inl here ↦ inl (sym here)
        | inr later ↦ absurd (Contains-nil i later)
      ]
  ConflictsUpTo-cases i j (k ∷ is, climbs, h) =
      elim (Contains-cons_cases j (k ∷ is) i h) [
        | inl here ↦ inl (sym here)
        | inr later ↦ inr (k, climbs.0, climbs.1, (is, climbs.2, later))
      ]

-- m is the greatest of the numbers of j and of all positions from which a chain leads to j
pub record IsGreatest (commands : List (List Op)) (own : ℕ → ℕ) (j m : ℕ) : Type 0 where
  pub above : (i : ℕ) → ConflictsUpTo commands i j → own i ≤ m
  pub reached : (i : ℕ) × ConflictsUpTo commands i j × (own i ≡ m)

-- the first commands, each with this greatest number
abbrev pub HaveGreatest : List (List Op) → (ℕ → ℕ) → List (List Op × ℕ) → Type 0
HaveGreatest commands own done = (j : ℕ) (ops : List Op) (m : ℕ)
    → slice_get done j ≡ Some (ops, m)
    → (ops ≡ slice_index_or commands j []) × IsGreatest commands own j m

pub slice_get-push_cases : {X : Type 0} (xs : List X) (x : X) (j : ℕ) (y : X)
    → slice_get (xs ++ x ∷ []) j ≡ Some y
    → (slice_get xs j ≡ Some y) ⊎ ((length xs ≡ j) × (x ≡ y))
slice_get-push_cases [] x zero y e = inr (refl, cc e)
slice_get-push_cases [] x (suc j) y e = absurd (cc e)
slice_get-push_cases (z ∷ xs) x zero y e = inl e
slice_get-push_cases (z ∷ xs) x (suc j) y e =
    elim (slice_get-push_cases xs x j y e) [
      | inl old ↦ inl old
      | inr new ↦ inr (ap suc new.0, new.1)
    ]

module _ (commands : List (List Op)) (own : ℕ → ℕ) (done : List (List Op × ℕ))
    (have : HaveGreatest commands own done) (ops : List Op) (found m : ℕ)
    (at : ops ≡ slice_index_or commands (length done) [])
    (least : IsLeastAbove done ops found) where
  abbrev n : ℕ
  n = length done

  -- m is the greatest number of the next command
  pub IsGreatest-next : own n ≤ m → found ≤ suc m → (m ≡ own n) ⊎ (suc m ≡ found)
      → IsGreatest commands own n m
  IsGreatest-next not_below not_beside either = record {
    above = λ i up. elim (ConflictsUpTo-cases commands i n up) [
      | inl here ↦ let same : own i ≡ own n = ap own here in omega (arith, same, not_below)
      | inr (k, less, conflict, on) ↦
          let none : List Op × ℕ = ([], 0) in
          let e : List Op × ℕ = get_or done k none in
          let read : slice_get done k ≡ Some e = slice_get-get_or done k none less in
          let is = have k e.0 e.1 read in
          let meets : Conflict e.0 ops =
          subst (λ (o : List Op). Conflict o ops) (sym is.0)
          (subst (Conflict (slice_index_or commands k [])) (sym at) conflict) in
          let low = least.above e.0 e.1 (Contains-slice_get done k e read) meets in
          omega (arith, low, is.1.above i on, not_beside)
    ];
    reached = elim either [
      | inl same ↦ (n, ConflictsUpTo-refl commands n, sym same)
      | inr beside ↦ elim least.reached [
        | inl none ↦ absurd (omega (arith, none, beside))
        | inr (o, l, h, meets, e) ↦
            let from = slice_get-from_Contains done (o, l) h in
            let is = have from.0 o l from.1 in
            let conflict : ConflictAt commands from.0 n =
            subst (λ (p : List Op). Conflict p (slice_index_or commands n [])) is.0
            (subst (Conflict o) at meets) in
            let up = is.1.reached in (
              up.0,
              ConflictsUpTo-push commands up.0 from.0 n up.1
                  (slice_get_within done from.0 (o, l) from.1) conflict,
              omega (arith, up.2, e, beside),
            )
      ]
    ];
  }

  pub HaveGreatest-push : IsGreatest commands own n m
      → HaveGreatest commands own (done ++ (ops, m) ∷ [])
  HaveGreatest-push is j o l read =
      elim (slice_get-push_cases done (ops, m) j (o, l) read) [
        | inl old ↦ have j o l old
        | inr (here, same) ↦ (
          ap (λ (e : List Op × ℕ). e.0) (sym same) ∙ at
              ∙ ap (λ i. slice_index_or commands i []) here,
          subst (λ i. IsGreatest commands own i l) here
              (subst (IsGreatest commands own n) (ap (λ (e : List Op × ℕ). e.1) same) is),
        )
      ]

-- ---- such numbers exist

pub IsLeastAbove-exists : (done : List (List Op × ℕ)) (ops : List Op)
    → (n : ℕ) × IsLeastAbove done ops n
IsLeastAbove-exists [] ops = (
  0,
  record { above = λ o l h. absurd (Contains-nil (o, l) h); reached = inl refl },
)
IsLeastAbove-exists (d ∷ done) ops =
    let rest = IsLeastAbove-exists done ops in
    elim (Conflict-cases d.0 ops) [
      | inl meets ↦ (
        max (suc d.1) rest.0,
        record {
          above = λ o l h conflict. elim (Contains-cons_cases d done (o, l) h) [
            | inl here ↦ let same : d.1 ≡ l = ap (λ (e : List Op × ℕ). e.1) here in
                omega (arith, same)
            | inr later ↦ let low = rest.1.above o l later conflict in omega (arith, low)
          ];
          reached = elim (cases_lt d.1 rest.0) [
            | inl higher ↦ elim rest.1.reached [
              | inl none ↦ absurd (omega (arith, none, higher))
              | inr (o, l, h, conflict, e) ↦ inr (
                o,
                l,
                Contains-cons d done (o, l) h,
                conflict,
                omega (arith, e, higher),
              )
            ]
            | inr lower ↦ inr (d.0, d.1, Contains-head d done, meets, omega (arith, lower))
          ];
        },
      )
      | inr apart ↦ (
        rest.0,
        record {
          above = λ o l h conflict. elim (Contains-cons_cases d done (o, l) h) [
            | inl here ↦ absurd
                (apart (subst (λ (e : List Op × ℕ). Conflict e.0 ops) (sym here) conflict))
            | inr later ↦ rest.1.above o l later conflict
          ];
          reached = elim rest.1.reached [
            | inl none ↦ inl none
            | inr (o, l, h, conflict, e) ↦ inr (
              o,
              l,
              Contains-cons d done (o, l) h,
              conflict,
              e,
            )
          ];
        },
      )
    ]

module _ (commands : List (List Op)) (own : ℕ → ℕ) where
  pub HaveGreatest-exists : (n : ℕ) → (done : List (List Op × ℕ)) × (length done ≡ n)
      × HaveGreatest commands own done
  HaveGreatest-exists zero = ([], refl, λ j ops m e. absurd (cc e))
  HaveGreatest-exists (suc n) =
      let rest = HaveGreatest-exists n in
      let done = rest.0 in
      let ops = slice_index_or commands (length done) [] in
      let found = IsLeastAbove-exists done ops in
      elim (cases_lt (own (length done)) (found.0)) [
        | inl high ↦
            let m : (k : ℕ) × (suc k ≡ found.0) = before found.0 (omega (arith, high)) in (
              done ++ (ops, m.0) ∷ [],
              omega (arith, length_push done (ops, m.0), rest.1),
              HaveGreatest-push commands own done rest.2 ops found.0 m.0 refl found.1
                  (IsGreatest-next commands own done rest.2 ops found.0 m.0 refl found.1
                  (omega (arith, high, m.1)) (omega (arith, m.1)) (inr m.1)),
            )
        | inr low ↦
            let m = own (length done) in (
              done ++ (ops, m) ∷ [],
              omega (arith, length_push done (ops, m), rest.1),
              HaveGreatest-push commands own done rest.2 ops found.0 m refl found.1
                  (IsGreatest-next commands own done rest.2 ops found.0 m refl found.1
                  (omega arith) (omega (arith, low)) (inl refl)),
            )
      ]
    where
      before : (k : ℕ) → 0 < k → (p : ℕ) × (suc p ≡ k)
      before zero less = absurd (omega (arith, less))
      before (suc p) less = (p, refl)
