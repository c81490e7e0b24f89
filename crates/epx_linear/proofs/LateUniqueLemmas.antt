-- At most one instance is found late at each position.
use Rattle.std.proofs.Common.{◌≡◌, inl, inr, ℕ, ◌<◌, List, length, get_or, Option, Some, None}
use Rattle.std.proofs.Common.{refl, sym, ap, ◌∙◌, arith}
use Rattle.std.proofs.lemmas.List.{same_lists, get_or_default}
use Rattle.epx_types.proofs.Common.{UpTo-antisymm}
use Rattle.epx_types.specs.declared.id.Id.{Id}
use Rattle.epx_types.specs.declared.op.Op.{Op}
use Rattle.epx_linear.specs.declared.client_call.ClientCall.{ClientCall}
use Rattle.epx_linear.specs.ClientCalls.{IsInvokedUpTo}
use Rattle.epx_linear.specs.LateCalls.{IsFoundLate, AreFoundLate}

-- two calls that were each invoked up to the other are of one instance
invoked_alike : (a b : ClientCall) → IsInvokedUpTo a b → IsInvokedUpTo b a → a.id ≡ b.id
invoked_alike a b (inl less) (inl more) = absurd (omega (arith, less, more))
invoked_alike a b (inl less) (inr tied) = absurd (omega (arith, less, tied.0))
invoked_alike a b (inr tied) (inl less) = absurd (omega (arith, less, tied.0))
invoked_alike a b (inr tied) (inr other) = UpTo-antisymm a.id b.id other.1 tied.1

module _ (commands : List (List Op)) (calls : List (Option ClientCall)) where
  found_late_once : (j : ℕ) (o q : Option Id) → IsFoundLate commands calls j o
      → IsFoundLate commands calls j q → o ≡ q
  found_late_once j None None none other = refl
  found_late_once j None (Some y) none (a, b, at_j, latest, earlier, named) =
      let from = latest.among in
      absurd (none from.0 (a, b, at_j, from.2, from.1, earlier))
  found_late_once j (Some x) None (a, b, at_j, latest, earlier, named) none =
      let from = latest.among in
      absurd (none from.0 (a, b, at_j, from.2, from.1, earlier))
  found_late_once j (Some x) (Some y) (a, b, at_j, latest, earlier, named)
      (c, d, at_j', latest', earlier', named') =
      let from = latest.among in
      let from' = latest'.among in
      ap Some (sym named ∙ invoked_alike b d (latest'.latest from.0 b from.1 from.2)
      (latest.latest from'.0 d from'.1 from'.2) ∙ named')

  pub AreFoundLate-is_unique : (found other : List (Option Id)) → AreFoundLate commands calls found
      → AreFoundLate commands calls other → found ≡ other
  AreFoundLate-is_unique found other p q =
      same_lists found other (p.whole ∙ sym q.whole) (λ j d low.
      let within : j < length commands = omega (arith, low, p.whole) in
      get_or_default found j d None low
      ∙ found_late_once j (get_or found j None) (get_or other j None) (p.each j within)
      (q.each j within)
      ∙ get_or_default other j None d (omega (arith, within, q.whole)))
