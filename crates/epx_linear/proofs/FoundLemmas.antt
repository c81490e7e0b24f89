-- Nothing is found late exactly if some rearrangement keeps real time.
use Rattle.std.proofs.Common.{◌≡◌, ◌<◌, ℕ, List, length, Option, Some, None, All, slice_index_or}
use Rattle.std.proofs.Common.{refl, subst, arith}
use Rattle.epx_types.proofs.Common.{All-from_get_or, slice_get_within}
use Rattle.epx_types.specs.declared.id.Id.{Id}
use Rattle.epx_types.specs.declared.op.Op.{Op}
use Rattle.epx_linear.specs.declared.client_call.ClientCall.{ClientCall}
use Rattle.epx_linear.specs.LateCalls.{IsFoundLate, AreFoundLate}
use Rattle.epx_linear.specs.RealTime.{HasRealTimeOrder}
use Rattle.epx_linear.proofs.RealTimeLemmas.{HasRealTimeOrder-none_late, NoneLate-if_kept}

module _ (commands : List (List Op)) (calls : List (Option ClientCall))
    (found : List (Option Id)) where
  pub HasRealTimeOrder-none_found : length calls ≡ length commands
      → AreFoundLate commands calls found
      → All (λ o. o ≡ None) found → HasRealTimeOrder commands calls
  HasRealTimeOrder-none_found whole are none =
      HasRealTimeOrder-none_late commands calls whole (λ j i late.
      let low : j < length commands =
      omega (arith, whole, slice_get_within calls j (Some late.0) late.2) in
      let nothing : slice_index_or found j None ≡ None =
      none j None (omega (arith, low, are.whole)) in
      subst (IsFoundLate commands calls j) nothing (are.each j low) i late)

  pub All-none_found : AreFoundLate commands calls found → HasRealTimeOrder commands calls
      → All (λ o. o ≡ None) found
  All-none_found are order =
      All-from_get_or (λ o. o ≡ None) found None (λ j low.
      by j (slice_index_or found j None) (are.each j (omega (arith, low, are.whole))))
    where
      by : (j : ℕ) → (o : Option Id) → IsFoundLate commands calls j o → o ≡ None
      by j None is = refl
      by j (Some x) (a, b, at_j, latest, earlier, named) =
          let from = latest.among in
          absurd (NoneLate-if_kept commands order.0 order.1 calls order.2 j from.0
          (a, b, at_j, from.2, from.1, earlier))
