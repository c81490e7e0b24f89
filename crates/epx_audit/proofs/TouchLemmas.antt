-- The touches of commands are those of their keys.
use Rattle.std.proofs.Common.{◌≡◌, ℕ, Bool, true, List, filter, refl, subst, Contains}
use Rattle.epx_types.proofs.Common.{DefaultHasher, accesses_of, touched_by, written_by}
use Rattle.epx_types.proofs.Common.{touched_keys, written_keys, Contains-from_rising_keys}
use Rattle.epx_types.proofs.Common.{Contains-map, Contains-from_map, Contains-from_filter}
use Rattle.epx_types.proofs.Common.{passes-from_filter, Contains-flat_map, Contains-from_flat_map}
use Rattle.epx_types.specs.declared.op.Op.{Op}
use Rattle.epx_audit.specs.declared.touches.KeyUse.{KeyUse}
use Rattle.epx_audit.specs.inner.Touches.{touch, touches_by, hashed_touches}

module _ (start : DefaultHasher) (position : ℕ) where
  abbrev touch_by : List ℕ × Bool → KeyUse
  touch_by a = touch start position a.0 a.1

  by_touched : (op : Op) (q : List ℕ) → Contains (touched_by op) q
      → (w : Bool) × Contains (touches_by start position op) (touch start position q w)
  by_touched op q h =
      let a = Contains-from_map (λ (a : List ℕ × Bool). a.0) (accesses_of op) q h in (
        a.0.1,
        subst (λ k. Contains (touches_by start position op) (touch start position k a.0.1)) a.2
            (Contains-map touch_by (accesses_of op) a.0 a.1),
      )

  by_written : (op : Op) (q : List ℕ) → Contains (written_by op) q
      → Contains (touches_by start position op) (touch start position q true)
  by_written op q h =
      let writes : List ℕ × Bool → Bool = λ a. a.1 in
      let a = Contains-from_map (λ (a : List ℕ × Bool). a.0) (filter writes (accesses_of op)) q h in
      let here = Contains-from_filter writes (accesses_of op) a.0 a.1 in
      let w = passes-from_filter writes (accesses_of op) a.0 a.1 in
      subst (λ k. Contains (touches_by start position op) (touch start position k true)) a.2
      (subst (λ b. Contains (touches_by start position op) (touch start position a.0.0 b)) w
      (Contains-map touch_by (accesses_of op) a.0 here))

  -- a touched key has a touch, and a written one a touch that writes
  pub hashed_touches-touched : (ops : List Op) (q : List ℕ) → Contains (touched_keys ops) q
      → (w : Bool) × Contains (hashed_touches start position ops) (touch start position q w)
  hashed_touches-touched ops q h =
      let f = Contains-from_flat_map touched_by ops q (Contains-from_rising_keys _ q h) in
      let t = by_touched f.0 q f.2 in (
        t.0,
        Contains-flat_map (touches_by start position) ops f.0 (touch start position q t.0) f.1
            t.1,
      )

  pub hashed_touches-written : (ops : List Op) (q : List ℕ) → Contains (written_keys ops) q
      → Contains (hashed_touches start position ops) (touch start position q true)
  hashed_touches-written ops q h =
      let f = Contains-from_flat_map written_by ops q (Contains-from_rising_keys _ q h) in
      Contains-flat_map (touches_by start position) ops f.0 (touch start position q true) f.1
      (by_written f.0 q f.2)

  place_by : (op : Op) (t : KeyUse) → Contains (touches_by start position op) t
      → t.position ≡ position
  place_by op t h = let a = Contains-from_map touch_by (accesses_of op) t h in
      subst (λ t. t.position ≡ position) a.2 refl

  -- each touch is at the position of the command
  pub hashed_touches-position : (ops : List Op) (t : KeyUse)
      → Contains (hashed_touches start position ops) t
      → t.position ≡ position
  hashed_touches-position ops t h = let f =
      Contains-from_flat_map (touches_by start position) ops t h in
      place_by f.0 t f.2
