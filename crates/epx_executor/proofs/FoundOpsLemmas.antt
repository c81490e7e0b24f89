-- The operations of an instance, at its position in a map.
use Rattle.std.proofs.Common.{◌≡◌, ℕ, List, length, Option, Some, None, slice_get, unwrap_or, refl}
use Rattle.std.proofs.Common.{sym, ap, ◌∙◌, arith}
use Rattle.std.proofs.lemmas.Option.{slice_get_past}
use Rattle.epx_types.proofs.Common.{ids_of, instance_of, ops_or_empty, position_of, IsRising}
use Rattle.epx_types.proofs.Common.{Instance, instance_of-iff_contains, position_of-found}
use Rattle.epx_types.proofs.Common.{position_of-instance, Contains-slice_get}
use Rattle.epx_types.proofs.Common.{slice_get-from_Contains}
use Rattle.epx_types.specs.declared.id.Id.{Id}

module _ (m : List Instance) (rising : IsRising (ids_of m)) (x : Id) where
  -- an Id without a position has no instance
  no_instance : (o : Option Instance) → None ≡ position_of m x → instance_of m x ≡ o
      → instance_of m x ≡ None
  no_instance None none is = is
  no_instance (Some e) none is =
      let there = (instance_of-iff_contains m rising x e).0 is in
      let i = slice_get-from_Contains m e there.0 in
      absurd (cc (none, position_of-found m rising x i.0 e i.1 there.1))

  -- the operations at the position of an Id are those of its instance
  pub ops_or_empty-position : (p : Option ℕ) → p ≡ position_of m x
      → ops_or_empty (slice_get m (unwrap_or p (length m))) ≡ ops_or_empty (instance_of m x)
  ops_or_empty-position (Some i) found =
      let e = position_of-instance m x i (sym found) in
      ap ops_or_empty (e.1
      ∙ sym ((instance_of-iff_contains m rising x e.0).1 (Contains-slice_get m i e.0 e.1, e.2)))
  ops_or_empty-position None none =
      ap ops_or_empty (slice_get_past m (length m) (omega arith)
      ∙ sym (no_instance (instance_of m x) none refl))
