-- The committed map, from rows that name its lines.
use Rattle.std.proofs.Common.{◌≡◌, ◌<◌, ℕ, get_or, arith, List, map, length, MatchOption, Option}
use Rattle.std.proofs.Common.{None, Some, slice_get, Contains, refl, sym, ap, subst, subst₂, ◌∙◌}
use Rattle.epx_types.proofs.Common.{length-map, All-contains, slice_get_read, IsRising, Instance}
use Rattle.epx_types.proofs.Common.{Placed, ids_of, instance_of, position_of, Contains-map}
use Rattle.epx_types.proofs.Common.{instance_of-iff_contains, Contains-slice_get}
use Rattle.epx_types.proofs.Common.{slice_get-from_Contains}
use Rattle.epx_types.proofs.Common.{slice_get-from_map, position_of-instance, position_of-found}
use Rattle.epx_types.specs.declared.id.Id.{Id}
use Rattle.epx_types.proofs.lists.ListPositionLemmas.{slice_get-map}
use Rattle.epx_committed.specs.declared.rows.Row.{Row}
use Rattle.epx_committed.specs.LineRows.{line_at, instances_at, NamesItsLine, AreLineRows}
use Rattle.epx_committed.proofs.LineRowLemmas.{Lists, instances_at-under_rows, ids_of-under_rows}
use Rattle.epx_committed.proofs.LineRowLemmas.{slice_get-instances_at}

module _ (lists : Lists) (rows : List Row) (h : AreLineRows lists rows) where
  pub ids_of-instances_at : ids_of (instances_at lists rows) ≡ map (λ r. r.id) rows
  ids_of-instances_at = ap ids_of (instances_at-under_rows lists rows h.named)
      ∙ ids_of-under_rows lists rows h.named

  pub IsRising-instances_at : IsRising (ids_of (instances_at lists rows))
  IsRising-instances_at = subst IsRising (sym ids_of-instances_at) h.rising

  pub length-instances_at : length (instances_at lists rows) ≡ length rows
  length-instances_at = sym (length-map (instances_at lists rows) (λ (e : Instance). e.id))
      ∙ ap length ids_of-instances_at ∙ length-map rows (λ (r : Row). r.id)

  -- a position of the map is one of the rows
  pub length-within_rows : (m : List Instance) → instances_at lists rows ≡ m → (k : ℕ)
      → k < length m
      → k < length rows
  length-within_rows m is k within = omega (arith, length-instances_at, ap length is, within)

  pub slice_get-row : (m : List Instance) → instances_at lists rows ≡ m → (k : ℕ) (r : Row)
      → k < length m → r ≡ get_or rows k r → slice_get rows k ≡ Some r
  slice_get-row m is k r within at =
      slice_get_read rows (length rows) k r refl (length-within_rows m is k within) at

  pub line_at-of_row : (k : ℕ) (r : Row) → slice_get rows k ≡ Some r
      → (p : Placed) × (line_at lists r ≡ Some p) × (p.instance.id ≡ r.id)
      × (slice_get (instances_at lists rows) k ≡ Some p.instance)
  line_at-of_row k r at =
      let p = All-contains (NamesItsLine lists) rows r h.named (Contains-slice_get rows k r at) in
      (p.0, p.1.0, p.1.1, slice_get-instances_at lists rows h.named k r p.0 at p.1.0)

  -- the row that is read at a position of the map
  module _ (m : List Instance) (is : instances_at lists rows ≡ m) (k : ℕ) (r : Row)
      (within : k < length m) (at : r ≡ get_or rows k r) where
    pub NamesItsLine-at_index : NamesItsLine lists r
    NamesItsLine-at_index = All-contains (NamesItsLine lists) rows r h.named
        (Contains-slice_get rows k r (slice_get-row m is k r within at))

    -- it has the same position as the instance of its line
    pub slice_get-entry : (p : Placed) → line_at lists r ≡ Some p
        → slice_get (instances_at lists rows) k ≡ Some p.instance
    slice_get-entry p line =
        slice_get-instances_at lists rows h.named k r p (slice_get-row m is k r within at) line

  -- a row and the instance at its position have the same sequence number
  pub slice_get-seq : (k : ℕ) (r : Row) → slice_get rows k ≡ Some r
      → slice_get (map (λ i. i.seq) (instances_at lists rows)) k ≡ Some r.seq
  slice_get-seq k r at =
      let p = All-contains (NamesItsLine lists) rows r h.named (Contains-slice_get rows k r at) in
      slice_get-map (λ (i : Instance). i.seq) (instances_at lists rows) k p.0.instance
      (slice_get-instances_at lists rows h.named k r p.0 at p.1.0) ∙ ap Some p.1.2

  pub position_of-row : (k : ℕ) (r : Row) (x : Id) → slice_get rows k ≡ Some r → r.id ≡ x
      → position_of (instances_at lists rows) x ≡ Some k
  position_of-row k r x at is =
      let p = line_at-of_row k r at in
      position_of-found (instances_at lists rows) IsRising-instances_at x k p.0.instance p.3
      (p.2 ∙ is)

  -- a row with the Id at a position
  pub position_of-row_id : (k : ℕ) (x : Id) → slice_get (map (λ r. r.id) rows) k ≡ Some x
      → position_of (instances_at lists rows) x ≡ Some k
  position_of-row_id k x at = let r = slice_get-from_map (λ (r : Row). r.id) rows k x at in
      position_of-row k r.0 x r.1 r.2

  nowhere_at : (x : Id) → ¬ Contains (map (λ r. r.id) rows) x → (o : Option ℕ)
      → position_of (instances_at lists rows) x ≡ o → o ≡ None
  nowhere_at x none None at = refl
  nowhere_at x none (Some k) at =
      let e = position_of-instance (instances_at lists rows) x k at in
      let has = Contains-map (λ (i : Instance). i.id) (instances_at lists rows) e.0
      (Contains-slice_get (instances_at lists rows) k e.0 e.1) in
      absurd (none (subst₂ (λ (l : List Id) (y : Id). Contains l y) ids_of-instances_at e.2 has))

  no_position : (x : Id) → ¬ Contains (map (λ r. r.id) rows) x
      → position_of (instances_at lists rows) x ≡ None
  no_position x none = nowhere_at x none (position_of (instances_at lists rows) x) refl

  -- the position that a search of the rows finds
  pub position_of-search : (x : Id) (o : Option ℕ)
      → MatchOption o (¬ Contains (map (λ r. r.id) rows) x)
      (λ k. (r : Row) × (slice_get rows k ≡ Some r) × (r.id ≡ x))
      → o ≡ position_of (instances_at lists rows) x
  position_of-search x None none = sym (no_position x none)
  position_of-search x (Some k) r = sym (position_of-row k r.0 x r.1 r.2)

-- an Id without a position is not found
module _ (m : List Instance) (rising : IsRising (ids_of m)) (x : Id)
    (none : position_of m x ≡ None) where
  not_found : (o : Option Instance) → instance_of m x ≡ o → None ≡ o
  not_found None found = refl
  not_found (Some e) found =
      let has = (instance_of-iff_contains m rising x e).0 found in
      let at = slice_get-from_Contains m e has.0 in
      let position = position_of-found m rising x at.0 e at.1 has.1 in
      absurd (cc (none, position))

  pub instance_of-none : None ≡ instance_of m x
  instance_of-none = not_found (instance_of m x) refl
