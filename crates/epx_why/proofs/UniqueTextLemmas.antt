-- There is at most one text about an instance, and one of a path.
use Rattle.std.proofs.Common.{◌≡◌, inl, inr, ℕ, List, [], ◌∷◌, ◌++◌, flat_map, codes, Some}
use Rattle.std.proofs.Common.{slice_get, refl, sym, ap, ap₂, subst, ◌∙◌, arith}
use Rattle.epx_types.proofs.Common.{cases_lt, Below, Instance, Ranked, RanksBelow, IsReady}
use Rattle.epx_types.proofs.Common.{id_cmp-IsTotalOrder, rank_cmp-IsTotalOrder, AllPairs-slice_get}
use Rattle.epx_types.proofs.Common.{Contains-slice_get, AllPairs-from_rising_ids, is_lt-irrefl}
use Rattle.epx_types.proofs.Common.{is_lt-trans, is_lt-asymm, AllPairs-is_unique, WaitsFor-unique}
use Rattle.epx_types.proofs.Common.{IsReady-not_waiting, IsRanked-unique, IsExecutionOrder-unique}
use Rattle.epx_types.specs.declared.id.Id.{Id}
use Rattle.epx_report.specs.ReportLines.{waiting_line}
use Rattle.epx_report.specs.ViewLines.{missing_line}
use Rattle.epx_why.specs.declared.need.Need.{Need}
use Rattle.epx_why.specs.Distances.{IsDistance}
use Rattle.epx_why.specs.FirstPaths.{ComesUpTo, path_ids}
use Rattle.epx_why.specs.Needs.{AreNeeds}
use Rattle.epx_why.specs.WhyLaws.{WhyTextIsUnique, PathTextIsUnique}
use Rattle.epx_why.specs.WhyLines.{ready_line, need_line, path_line}
use Rattle.epx_why.specs.WhyTexts.{IsReadyText}

-- two distances are equal
pub IsDistance-unique : (m : List Instance) (x y : Id) (n l : ℕ) → IsDistance m x y n
    → IsDistance m x y l → n ≡ l
IsDistance-unique m x y n l p q =
    let low = p.fewest q.via q.path in
    let high = q.fewest p.via p.path in
    omega (arith, p.long, q.long)

-- two lists of the same needs are equal
AreNeeds-unique : (IsNeed : Id → ℕ → Type 0) (ns os : List Need) → AreNeeds IsNeed ns
    → AreNeeds IsNeed os → ns ≡ os
AreNeeds-unique IsNeed ns os p q =
    AllPairs-is_unique (λ a b. Below a.id b.id) (λ n. is_lt-irrefl id_cmp-IsTotalOrder n.id)
    (λ a b c. is_lt-trans id_cmp-IsTotalOrder a.id b.id c.id)
    ns os (AllPairs-from_rising_ids (λ (n : Need). n.id) ns p.rising)
    (AllPairs-from_rising_ids (λ (n : Need). n.id) os q.rising)
    (λ n h. q.whole n.id n.steps (p.only n h)) (λ n h. p.whole n.id n.steps (q.only n h))

-- ---- a ready instance

module _ (m : List Instance) (x : Id) where
  ready_by : (text : List ℕ) → IsReadyText m x text → IsReady m x
  ready_by text p = subst (IsReady m) p.named
      (p.executed.ranked p.ranked (Contains-slice_get p.order p.position p.ranked p.there)).ready

  ready_is_unique : (text other : List ℕ) → IsReadyText m x text → IsReadyText m x other
      → text ≡ other
  ready_is_unique text other p q =
      let orders = IsExecutionOrder-unique m p.order q.order p.executed q.executed in
      let here : slice_get q.order p.position ≡ Some p.ranked =
      ap (λ order. slice_get order p.position) (sym orders) ∙ p.there in
      let ranked = IsRanked-unique m p.ranked q.ranked
      (q.executed.ranked p.ranked (Contains-slice_get q.order p.position p.ranked here))
      (q.executed.ranked q.ranked (Contains-slice_get q.order q.position q.ranked q.there))
      (p.named ∙ sym q.named) in
      p.printed ∙ ap₂ ready_line (positions ranked here) ranked ∙ sym q.printed
    where
      positions : p.ranked ≡ q.ranked → slice_get q.order p.position ≡ Some p.ranked
          → p.position ≡ q.position
      positions same here =
          elim (cases_lt p.position q.position) [
            | inl l ↦ absurd
                (is_lt-irrefl rank_cmp-IsTotalOrder q.ranked
                (subst (λ (r : Ranked). RanksBelow r q.ranked)
                same
                (AllPairs-slice_get RanksBelow q.order q.executed.rising p.position q.position
                p.ranked q.ranked l here q.there)))
            | inr not_l ↦ elim (cases_lt q.position p.position) [
              | inl l ↦ absurd
                  (is_lt-irrefl rank_cmp-IsTotalOrder q.ranked
                  (subst (λ (r : Ranked). RanksBelow q.ranked r) same
                  (AllPairs-slice_get RanksBelow q.order q.executed.rising q.position p.position
                  q.ranked p.ranked l q.there here)))
              | inr more ↦ omega arith
            ]
          ]

pub WhyTextIsUnique-holds : WhyTextIsUnique
WhyTextIsUnique-holds m x text other (inl p) (inl q) = ready_is_unique m x text other p q
WhyTextIsUnique-holds m x text other (inl p) (inr (inl q)) =
    absurd (IsReady-not_waiting m x q.missing (ready_by m x text p) q.waits)
WhyTextIsUnique-holds m x text other (inl p) (inr (inr q)) =
    absurd (q.missing (ready_by m x text p).committed)
WhyTextIsUnique-holds m x text other (inr (inl p)) (inl q) =
    absurd (IsReady-not_waiting m x p.missing (ready_by m x other q) p.waits)
WhyTextIsUnique-holds m x text other (inr (inl p)) (inr (inl q)) =
    let missing = WaitsFor-unique m x p.missing q.missing p.waits q.waits in
    let needs = AreNeeds-unique _ p.needs q.needs p.needed q.needed in
    p.printed ∙ (λ i. waiting_line (record { id = x; missing = missing i })
    ++ flat_map (need_line (codes "needs")) (needs i)) ∙ sym q.printed
WhyTextIsUnique-holds m x text other (inr (inl p)) (inr (inr q)) =
    absurd (q.missing p.waits.committed)
WhyTextIsUnique-holds m x text other (inr (inr p)) (inl q) =
    absurd (p.missing (ready_by m x other q).committed)
WhyTextIsUnique-holds m x text other (inr (inr p)) (inr (inl q)) =
    absurd (p.missing q.waits.committed)
WhyTextIsUnique-holds m x text other (inr (inr p)) (inr (inr q)) =
    let needing = AreNeeds-unique _ p.needing q.needing p.reaching q.reaching in
    p.printed ∙ ap (λ ns. missing_line x ++ flat_map (need_line (codes "needed")) ns) needing
    ∙ sym q.printed

-- ---- a path

ComesUpTo-antisymm : (xs ys : List Id) → ComesUpTo xs ys → ComesUpTo ys xs → xs ≡ ys
ComesUpTo-antisymm [] [] p q = refl
ComesUpTo-antisymm [] (y ∷ ys) p q = absurd q
ComesUpTo-antisymm (x ∷ xs) [] p q = absurd p
ComesUpTo-antisymm (x ∷ xs) (y ∷ ys) (inl l) (inl k) =
    absurd (is_lt-asymm id_cmp-IsTotalOrder x y l k)
ComesUpTo-antisymm (x ∷ xs) (y ∷ ys) (inl l) (inr k) =
    absurd (is_lt-irrefl id_cmp-IsTotalOrder x (subst (Below x) k.0 l))
ComesUpTo-antisymm (x ∷ xs) (y ∷ ys) (inr l) (inl k) =
    absurd (is_lt-irrefl id_cmp-IsTotalOrder y (subst (Below y) l.0 k))
ComesUpTo-antisymm (x ∷ xs) (y ∷ ys) (inr l) (inr k) =
    ap₂ (λ z zs. z ∷ zs) l.0 (ComesUpTo-antisymm xs ys l.1 k.1)

pub PathTextIsUnique-holds : PathTextIsUnique
PathTextIsUnique-holds m x y text other (inl p) (inl q) =
    let low = p.first.shortest q.via q.first.path in
    let high = q.first.shortest p.via p.first.path in
    let ids = ComesUpTo-antisymm (path_ids x p.via y) (path_ids x q.via y)
    (p.first.first q.via q.first.path (omega arith))
    (q.first.first p.via p.first.path (omega arith)) in
    p.printed ∙ ap path_line ids ∙ sym q.printed
PathTextIsUnique-holds m x y text other (inl p) (inr q) = absurd (q.0 p.via p.first.path)
PathTextIsUnique-holds m x y text other (inr p) (inl q) = absurd (p.0 q.via q.first.path)
PathTextIsUnique-holds m x y text other (inr p) (inr q) = p.1 ∙ sym q.1
