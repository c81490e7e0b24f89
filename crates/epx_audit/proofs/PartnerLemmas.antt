-- Which nodes are settled with a node, from the keys of their commands and from a batch.
use Rattle.std.proofs.Common.{◌≡◌, inl, inr, ℕ, ◌+◌, ◌<◌, ◌≤◌, List, Bool, length, map, slice_get}
use Rattle.std.proofs.Common.{Some, IsTrue, sym, subst, subst₂, ap, ◌∙◌, arith}
use Rattle.epx_types.proofs.Common.{cases_lt, slice_get_within, Instance, slice_get-from_map}
use Rattle.epx_types.proofs.lists.ListPositionLemmas.{slice_get-map}
use Rattle.epx_audit.specs.declared.doubtful_touches.DoubtfulTouch.{DoubtfulTouch}
use Rattle.epx_audit.specs.inner.Batches.{IsReadyApart}
use Rattle.epx_audit.specs.inner.DoubtfulKeys.{HoldAllConflicts, IsRelatedOrFree}
use Rattle.epx_audit.specs.inner.NodeConflicts.{KeyLists, keys_of, KeysConflict, IsSettled}
use Rattle.epx_audit.specs.inner.NodeConflicts.{IsPartner}
use Rattle.epx_components.specs.between.ReadyMarks.{is_marked}

module _ (m : List Instance) (edges : ℕ → List ℕ) (ready : List Bool) (k : ℕ) where
  -- after one more node
  pub IsSettled-next : (j : ℕ) → ((i : ℕ) → k < i → i < j → IsSettled m edges ready k i)
      → IsSettled m edges ready k j → (i : ℕ) → k < i → i < j + 1 → IsSettled m edges ready k i
  IsSettled-next j before here i above below = elim (cases_lt i j) [
    | inl past ↦ before i above past
    | inr now ↦ let same : j ≡ i = omega arith in subst (IsSettled m edges ready k) same here
  ]

  -- a node that shares no doubtful key with k, or is related to k, is settled with k
  pub IsSettled-if_related_or_free : (touches : List DoubtfulTouch)
      → HoldAllConflicts m edges ready touches
      → (j : ℕ) → k < j → IsRelatedOrFree edges ready touches k j → IsSettled m edges ready k j
  IsSettled-if_related_or_free touches hold j above rest d e at to k_ready j_ready conflict =
      elim (hold k j d e above at to k_ready j_ready conflict) [
        | inl related ↦ related
        | inr share ↦ rest j_ready share
      ]

  module _ (keys : List KeyLists) (same : keys ≡ map keys_of m) where
    instance_of_keys : (i : ℕ) (v : KeyLists) → slice_get keys i ≡ Some v
        → (d : Instance) × (slice_get m i ≡ Some d) × (keys_of d ≡ v)
    instance_of_keys i v at = slice_get-from_map keys_of m i v
        (ap (λ keys. slice_get keys i) (sym same) ∙ at)

    -- two commands that do not conflict are settled
    pub IsSettled-by_keys : (j : ℕ) (v w : KeyLists) → slice_get keys k ≡ Some v
        → slice_get keys j ≡ Some w → ¬ KeysConflict v w → IsSettled m edges ready k j
    IsSettled-by_keys j v w at to none d e at_d at_e k_ready j_ready conflict =
        let v_is : Some v ≡ Some (keys_of d) =
        sym at ∙ (ap (λ keys. slice_get keys k) same ∙ slice_get-map keys_of m k d at_d) in
        let w_is : Some w ≡ Some (keys_of e) =
        sym to ∙ (ap (λ keys. slice_get keys j) same ∙ slice_get-map keys_of m j e at_e) in
        let one : v ≡ keys_of d = cc v_is in
        let two : w ≡ keys_of e = cc w_is in
        absurd (none (subst₂ KeysConflict (sym one) (sym two) conflict))

    pub IsPartner-from_conflict : (j : ℕ) (v w : KeyLists) → k < j → IsTrue (is_marked ready k)
        → slice_get keys k ≡ Some v → slice_get keys j ≡ Some w → IsReadyApart edges ready k j
        → KeysConflict v w → ((i : ℕ) → k < i → i < j → IsSettled m edges ready k i)
        → IsPartner m edges ready k j
    IsPartner-from_conflict j v w above k_ready at to apart conflict before =
        let d = instance_of_keys k v at in
        let e = instance_of_keys j w to in
        record {
          above = above;
          unsettled = record {
            conflict = (d.0, e.0, d.1, e.1, subst₂ KeysConflict (sym d.2) (sym e.2) conflict);
            both_ready = (k_ready, apart.is_ready);
            apart = apart.apart;
          };
          least = before;
        }

    -- after the last instance there is no node
    pub IsSettled-at_end : (n : ℕ) → length keys ≤ n
        → ((i : ℕ) → k < i → i < n → IsSettled m edges ready k i) → (j : ℕ) → k < j
        → IsSettled m edges ready k j
    IsSettled-at_end n past before j above d e at to k_ready j_ready conflict =
        let there = slice_get-map keys_of m j e to in
        let within = slice_get_within keys j (keys_of e)
        (ap (λ keys. slice_get keys j) same ∙ there) in
        before j above (omega (arith, within, past)) d e at to k_ready j_ready conflict
