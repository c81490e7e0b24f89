-- A list has at most one fault, and a lawful order has none.
use Rattle.std.proofs.Common.{◌≡◌, ◌≢◌, ◌⊎◌, inl, inr, ℕ, ◌<◌, List, length, Some, refl, sym, ap}
use Rattle.std.proofs.Common.{◌∙◌, subst, arith}
use Rattle.epx_types.proofs.Common.{cases_lt, slice_get_within, Instance, IsLawful, IsReady}
use Rattle.epx_types.proofs.Common.{Before-not_both, Contains-slice_get, AllPairs-slice_get}
use Rattle.epx_types.proofs.Common.{UpTo-antisymm}
use Rattle.epx_types.specs.declared.id.Id.{Id}
use Rattle.epx_ranking.specs.OrderFaults.{IsStrangerAt, IsRepeatAt, IsEarlyAt, IsOvertakenAt}
use Rattle.epx_ranking.specs.OrderFaults.{ReadyOnce, InOrder, IsOrderFault}
use Rattle.epx_ranking.specs.declared.order_fault.OrderFault.{OrderFault}
use Rattle.epx_ranking.specs.declared.order_fault.OrderFault.TheVariants.{Memory, Stranger, Repeat}
use Rattle.epx_ranking.specs.declared.order_fault.OrderFault.TheVariants.{Missing, Early, Sequence}

module _ (m : List Instance) (ids : List Id) where
  abbrev pub IsStrangerOrRepeatAt : ℕ → Type 0
  IsStrangerOrRepeatAt place = IsStrangerAt m ids place ⊎ IsRepeatAt m ids place

  -- if a list has only ready instances, each once, up to a place, then no lower place has a
  -- stranger or a repeat
  not_below : (n place : ℕ) → ReadyOnce m ids n → IsStrangerOrRepeatAt place → ¬ (place < n)
  not_below n place once (inl stranger) l =
      stranger.waits (once place stranger.id l stranger.here).0
  not_below n place once (inr again) l =
      (once place again.id l again.here).1 again.earlier again.is_earlier again.there

  within : (place : ℕ) → IsStrangerOrRepeatAt place → place < length ids
  within place (inl stranger) = slice_get_within ids place stranger.id stranger.here
  within place (inr again) = slice_get_within ids place again.id again.here

  pub ReadyOnce-no_wrong_place : (place : ℕ) → IsStrangerOrRepeatAt place
      → ¬ ReadyOnce m ids (length ids)
  ReadyOnce-no_wrong_place place wrong once =
      not_below (length ids) place once wrong (within place wrong)

  pub IsStrangerOrRepeatAt-is_unique : (i j : ℕ) → IsStrangerOrRepeatAt i → ReadyOnce m ids i
      → IsStrangerOrRepeatAt j
      → ReadyOnce m ids j → i ≡ j
  IsStrangerOrRepeatAt-is_unique i j wrong once wrong' once' = elim (cases_lt i j) [
    | inl l ↦ absurd (not_below j i once' wrong l)
    | inr k ↦ elim (cases_lt j i) [
      | inl l ↦ absurd (not_below i j once wrong' l)
      | inr l ↦ omega arith
    ]
  ]

  pub IsRepeatAt-not_stranger : (i : ℕ) → IsStrangerAt m ids i → ¬ IsRepeatAt m ids i
  IsRepeatAt-not_stranger i stranger again =
      let same : Some again.id ≡ Some stranger.id = sym again.here ∙ stranger.here in
      stranger.waits (subst (IsReady m) (cc same) again.ready)

  -- two places where the order is wrong, each the least one, are equal
  one_order_place : (i j : ℕ) → IsEarlyAt m ids i ⊎ IsOvertakenAt m ids i → InOrder m ids i
      → IsEarlyAt m ids j ⊎ IsOvertakenAt m ids j → InOrder m ids j → i ≡ j
  one_order_place i j wrong order wrong' order' = elim (cases_lt i j) [
    | inl l ↦ absurd (not_in_order i j l wrong order')
    | inr k ↦ elim (cases_lt j i) [
      | inl l ↦ absurd (not_in_order j i l wrong' order)
      | inr l ↦ omega arith
    ]
  ] where
    not_in_order : (p q : ℕ) → p < q → IsEarlyAt m ids p ⊎ IsOvertakenAt m ids p
        → ¬ InOrder m ids q
    not_in_order p q l (inl early) order = (order p l).0 early
    not_in_order p q l (inr overtaken) order = (order p l).1 overtaken

  pub IsOrderFault-is_unique : (f g : OrderFault) → f ≢ Memory → g ≢ Memory → IsOrderFault m ids f
      → IsOrderFault m ids g → f ≡ g
  IsOrderFault-is_unique Memory g nf ng a b = absurd (nf refl)
  IsOrderFault-is_unique (Stranger i) Memory nf ng a b = absurd (ng refl)
  IsOrderFault-is_unique (Stranger i) (Stranger j) nf ng a b =
      ap Stranger (IsStrangerOrRepeatAt-is_unique i j (inl a.0) a.1 (inl b.0) b.1)
  IsOrderFault-is_unique (Stranger i) (Repeat j) nf ng a b =
      absurd (IsRepeatAt-not_stranger j (subst (IsStrangerAt m ids)
      (IsStrangerOrRepeatAt-is_unique i j (inl a.0) a.1 (inr b.0) b.1)
      a.0) b.0)
  IsOrderFault-is_unique (Stranger i) (Missing y) nf ng a b =
      absurd (ReadyOnce-no_wrong_place i (inl a.0) b.0)
  IsOrderFault-is_unique (Stranger i) (Early j) nf ng a b =
      absurd (ReadyOnce-no_wrong_place i (inl a.0) b.0.0)
  IsOrderFault-is_unique (Stranger i) (Sequence j) nf ng a b =
      absurd (ReadyOnce-no_wrong_place i (inl a.0) b.0.0)
  IsOrderFault-is_unique (Repeat i) Memory nf ng a b = absurd (ng refl)
  IsOrderFault-is_unique (Repeat i) (Stranger j) nf ng a b =
      absurd (IsRepeatAt-not_stranger i (subst (IsStrangerAt m ids)
      (IsStrangerOrRepeatAt-is_unique j i (inl b.0) b.1 (inr a.0) a.1)
      b.0) a.0)
  IsOrderFault-is_unique (Repeat i) (Repeat j) nf ng a b =
      ap Repeat (IsStrangerOrRepeatAt-is_unique i j (inr a.0) a.1 (inr b.0) b.1)
  IsOrderFault-is_unique (Repeat i) (Missing y) nf ng a b =
      absurd (ReadyOnce-no_wrong_place i (inr a.0) b.0)
  IsOrderFault-is_unique (Repeat i) (Early j) nf ng a b =
      absurd (ReadyOnce-no_wrong_place i (inr a.0) b.0.0)
  IsOrderFault-is_unique (Repeat i) (Sequence j) nf ng a b =
      absurd (ReadyOnce-no_wrong_place i (inr a.0) b.0.0)
  IsOrderFault-is_unique (Missing x) Memory nf ng a b = absurd (ng refl)
  IsOrderFault-is_unique (Missing x) (Stranger j) nf ng a b =
      absurd (ReadyOnce-no_wrong_place j (inl b.0) a.0)
  IsOrderFault-is_unique (Missing x) (Repeat j) nf ng a b =
      absurd (ReadyOnce-no_wrong_place j (inr b.0) a.0)
  IsOrderFault-is_unique (Missing x) (Missing y) nf ng a b =
      ap Missing (UpTo-antisymm x y (a.3 y b.1 b.2) (b.3 x a.1 a.2))
  IsOrderFault-is_unique (Missing x) (Early j) nf ng a b = absurd (a.2 (b.0.1 x a.1))
  IsOrderFault-is_unique (Missing x) (Sequence j) nf ng a b = absurd (a.2 (b.0.1 x a.1))
  IsOrderFault-is_unique (Early i) Memory nf ng a b = absurd (ng refl)
  IsOrderFault-is_unique (Early i) (Stranger j) nf ng a b =
      absurd (ReadyOnce-no_wrong_place j (inl b.0) a.0.0)
  IsOrderFault-is_unique (Early i) (Repeat j) nf ng a b =
      absurd (ReadyOnce-no_wrong_place j (inr b.0) a.0.0)
  IsOrderFault-is_unique (Early i) (Missing y) nf ng a b = absurd (b.2 (a.0.1 y b.1))
  IsOrderFault-is_unique (Early i) (Early j) nf ng a b =
      ap Early (one_order_place i j (inl a.1) a.2 (inl b.1) b.2)
  IsOrderFault-is_unique (Early i) (Sequence j) nf ng a b =
      absurd (b.2 (subst (IsEarlyAt m ids) (one_order_place i j (inl a.1) a.2 (inr b.1) b.3) a.1))
  IsOrderFault-is_unique (Sequence i) Memory nf ng a b = absurd (ng refl)
  IsOrderFault-is_unique (Sequence i) (Stranger j) nf ng a b =
      absurd (ReadyOnce-no_wrong_place j (inl b.0) a.0.0)
  IsOrderFault-is_unique (Sequence i) (Repeat j) nf ng a b =
      absurd (ReadyOnce-no_wrong_place j (inr b.0) a.0.0)
  IsOrderFault-is_unique (Sequence i) (Missing y) nf ng a b = absurd (b.2 (a.0.1 y b.1))
  IsOrderFault-is_unique (Sequence i) (Early j) nf ng a b =
      absurd (a.2 (subst (IsEarlyAt m ids) (one_order_place j i (inl b.1) b.2 (inr a.1) a.3) b.1))
  IsOrderFault-is_unique (Sequence i) (Sequence j) nf ng a b =
      ap Sequence (one_order_place i j (inr a.1) a.3 (inr b.1) b.3)

  pub IsOrderFault-not_lawful : (f : OrderFault) → f ≢ Memory → IsLawful m ids
      → ¬ IsOrderFault m ids f
  IsOrderFault-not_lawful Memory nf lawful h = nf refl
  IsOrderFault-not_lawful (Stranger i) nf lawful (stranger, once) =
      stranger.waits (lawful.only stranger.id (Contains-slice_get ids i stranger.id stranger.here))
  IsOrderFault-not_lawful (Repeat i) nf lawful (again, once) =
      AllPairs-slice_get (λ x y. x ≢ y) ids lawful.once again.earlier i again.id again.id
      again.is_earlier again.there again.here refl
  IsOrderFault-not_lawful (Missing x) nf lawful h = h.2 (lawful.whole x h.1)
  IsOrderFault-not_lawful (Early i) nf lawful (whole, early, order) =
      Before-not_both ids lawful.once early.id early.reached
      (i, early.later, early.is_later, early.here, early.there)
      (lawful.after_reached early.id early.reached
      (Contains-slice_get ids i early.id early.here) early.reaches early.outside)
  IsOrderFault-not_lawful (Sequence i) nf lawful (whole, overtaken, not_early, order) =
      let x = overtaken.id in
      let y = overtaken.follower in
      Before-not_both ids lawful.once y x
      (overtaken.earlier, i, overtaken.is_earlier, overtaken.there, overtaken.here)
      (lawful.by_sequence x y (Contains-slice_get ids i x overtaken.here)
      (Contains-slice_get ids overtaken.earlier y overtaken.there) overtaken.one_component
      overtaken.by_sequence)
