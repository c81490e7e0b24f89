use Rattle.std.proofs.Common.{◌≡◌, ℕ, ℤ, List, map}
use Rattle.std.specs.FinMap as contents
use Rattle.epx_types.specs.Keys.{add_keys}
use Rattle.epx_verify.proofs.differences.add_keys_of.Given as goal

abbrev pub invariant-loop-key : goal.invariant-loop-key
invariant-loop-key l =
    add_keys (map (λ k. k.now) l.keys.keys)
    (map (λ (e : List ℕ × ℤ). e.0) (map (λ p. (p.0.now, p.1)) l.key-iterator.rest.items))
    ≡ add_keys (map (λ k. k.now) l.fn.keys.keys) (contents.keys l.fn.store)
