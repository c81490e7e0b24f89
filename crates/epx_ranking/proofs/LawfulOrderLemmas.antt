-- A list is a lawful order exactly if it has each ready instance once, and none is early or
-- overtaken.
use Rattle.std.proofs.Common.{◌≡◌, ◌≢◌, ℕ, inl, inr, List, true, length, slice_get, Some, sym}
use Rattle.std.proofs.Common.{subst, ◌∙◌, ap, arith, is_lt, nat_cmp, Contains}
use Rattle.epx_types.proofs.Common.{ordering_then, nat_cmp_total, cases_lt, slice_get_within}
use Rattle.epx_types.proofs.Common.{id_cmp, IsRising, ids_of, Instance, SequenceBefore, IsLawful}
use Rattle.epx_types.proofs.Common.{IsReady, IsRising-same, id_cmp-IsTotalOrder}
use Rattle.epx_types.proofs.Common.{slice_get-from_Contains}
use Rattle.epx_types.proofs.Common.{AllPairs-from_slice_get, IsReady-reached, is_lt-irrefl}
use Rattle.epx_types.specs.declared.id.Id.{Id}
use Rattle.std.specs.Cmp.{on_total, then_total}
use Rattle.epx_ranking.specs.OrderFaults.{IsListOfReady, InOrder}

module _ (m : List Instance) (rising : IsRising (ids_of m)) (ids : List Id) where
  -- no instance comes before itself
  pub SequenceBefore-irrefl : (x : Id) → ¬ SequenceBefore m x x
  SequenceBefore-irrefl x by =
      let e = by.second in
      let one = IsRising-same m rising by.first e by.first_in by.second_in
      (by.first_is ∙ sym by.second_is) in
      let same = subst (λ (d : Instance). is_lt (ordering_then (nat_cmp d.seq e.seq) (id_cmp x x))
      ≡ true) one by.lower in
      is_lt-irrefl (then_total (on_total (λ (a : ℕ × Id). a.0) nat_cmp_total)
      (on_total (λ (a : ℕ × Id). a.1) id_cmp-IsTotalOrder)) (e.seq, x) same

  module _ (ready : IsListOfReady m ids) (order : InOrder m ids (length ids)) where
    member : (x : Id) → Contains ids x → IsReady m x
    member x h =
        let at = slice_get-from_Contains ids x h in
        (ready.0 at.0 x (slice_get_within ids at.0 x at.1) at.1).0

    pub IsLawful-from_order : IsLawful m ids
    IsLawful-from_order = record {
      once = AllPairs-from_slice_get (λ x y. x ≢ y) ids
          (λ i j x y l at to same. (ready.0 j y (slice_get_within ids j y to) to).1 i l
          (at ∙ ap Some same));
      only = member;
      whole = ready.1;
      after_reached = λ x y h there back.
          let i = slice_get-from_Contains ids x h in
          let j = slice_get-from_Contains ids y
          (ready.1 y (IsReady-reached m x y there (member x h))) in
          elim (cases_lt j.0 i.0) [
            | inl before ↦ (j.0, i.0, before, j.1, i.1)
            | inr upto ↦ elim (cases_lt i.0 j.0) [
              | inl later ↦ absurd ((order i.0 (slice_get_within ids i.0 x i.1)).0
                  (record {
                    id = x;
                    reached = y;
                    here = i.1;
                    reaches = there;
                    outside = back;
                    later = j.0;
                    is_later = later;
                    there = j.1;
                  }))
              | inr other ↦
                  let one : i.0 ≡ j.0 = omega arith in
                  let same : Some x ≡ Some y = sym i.1 ∙ ap (slice_get ids) one ∙ j.1 in
                  absurd (back (inl (sym (cc same))))
            ]
          ];
      by_sequence = λ x y in_x in_y one lower.
          let i = slice_get-from_Contains ids x in_x in
          let j = slice_get-from_Contains ids y in_y in
          elim (cases_lt i.0 j.0) [
            | inl before ↦ (i.0, j.0, before, i.1, j.1)
            | inr upto ↦ elim (cases_lt j.0 i.0) [
              | inl earlier ↦ absurd
                  ((order i.0 (slice_get_within ids i.0 x i.1)).1
                  (record {
                    id = x;
                    follower = y;
                    here = i.1;
                    one_component = one;
                    by_sequence = lower;
                    earlier = j.0;
                    is_earlier = earlier;
                    there = j.1;
                  }))
              | inr other ↦
                  let position : j.0 ≡ i.0 = omega arith in
                  let same : Some y ≡ Some x = sym j.1 ∙ ap (slice_get ids) position ∙ i.1 in
                  let is_x : y ≡ x = cc same in
                  absurd (SequenceBefore-irrefl x (subst (SequenceBefore m x) is_x lower))
            ]
          ];
    }
