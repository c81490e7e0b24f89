-- What is gathered of the dependencies, Id by Id and instance by instance.
use Rattle.std.proofs.Common.{◌≡◌, ℕ, suc, ◌+◌, ◌-◌, ◌<◌, ◌≤◌, not, is_some, List, [], ◌∷◌, ◌++◌}
use Rattle.std.proofs.Common.{length, take, drop, drop-cons, get_or, Some, None, slice_get}
use Rattle.std.proofs.Common.{Contains, All, AllPairs, sym, ap, subst, ◌∙◌, append-nil, arith}
use Rattle.std.specs.List.{cons_option}
use Rattle.epx_types.proofs.Common.{length-map, length-append, take_at, drop_at, All-contains}
use Rattle.epx_types.proofs.Common.{All-contains_itself, All-weaker, AllPairs-filter}
use Rattle.epx_types.proofs.Common.{slice_get_within, get_or_from_slice_get, Below, IsRising}
use Rattle.epx_types.proofs.Common.{Instance, position_of, IsCommitted, Contains-nil}
use Rattle.epx_types.proofs.Common.{Contains-flat_map, Contains-slice_get, AllPairs-from_IsRising}
use Rattle.epx_types.specs.declared.id.Id.{Id}
use Rattle.std.proofs.lemmas.List.Elements.{filter_map-append}
use Rattle.epx_types.proofs.lists.ListPositionLemmas.{slice_get-map}
use Rattle.epx_rows.specs.between.Rows.{row_of}
use Rattle.epx_graph.specs.inner.Nodes.{positions_of, missing_of, all_positions, all_missing_of}
use Rattle.epx_graph.specs.inner.Nodes.{AreNodesOf, ArePositionsOf, AreRowsOf, IsGathered}
use Rattle.epx_graph.proofs.MissingIdLemmas.{IsCommitted-not_missing}
use Rattle.epx_graph.proofs.RisingRowLemmas.{length-positions_of, ArePositionsOf-append}

-- ---- Ids gathered one after another

pub positions_of-skip : (m : List Instance) (xs : List Id) (x : Id) → position_of m x ≡ None
    → positions_of m (xs ++ x ∷ []) ≡ positions_of m xs
positions_of-skip m xs x none =
    filter_map-append (position_of m) xs (x ∷ [])
    ∙ ap (λ o. positions_of m xs ++ cons_option o []) none ∙ append-nil (positions_of m xs)

pub positions_of-push : (m : List Instance) (xs : List Id) (x : Id) (p : ℕ)
    → position_of m x ≡ Some p
    → positions_of m (xs ++ x ∷ []) ≡ positions_of m xs ++ p ∷ []
positions_of-push m xs x p some =
    filter_map-append (position_of m) xs (x ∷ [])
    ∙ ap (λ o. positions_of m xs ++ cons_option o []) some

-- ---- instance by instance

-- the row of an instance
pub row_of-gathered : (m : List Instance) (rows : List (List ℕ)) (i : ℕ) (e : Instance)
    → rows ≡ all_positions m m → slice_get m i ≡ Some e → row_of rows i ≡ positions_of m e.deps
row_of-gathered m rows i e is at =
    ap (λ r. row_of r i) is ∙ get_or_from_slice_get (all_positions m m) i (positions_of m e.deps)
    [] (slice_get-map (λ (d : Instance). positions_of m d.deps) m i e at)

-- what an instance lacks comes before what later instances lack
pub all_missing_of-drop : (m : List Instance) (i : ℕ) (e : Instance) → slice_get m i ≡ Some e
    → all_missing_of m (drop i m) ≡ missing_of m e.deps ++ all_missing_of m (drop (i + 1) m)
all_missing_of-drop m i e at =
    let same : get_or m i e ≡ e = get_or_from_slice_get m i e e at in
    let next : i + 1 ≡ suc i = omega arith in
    ap (all_missing_of m) (drop-cons m i e (slice_get_within m i e at))
    ∙ ap (λ (d : Instance). missing_of m d.deps ++ all_missing_of m (drop (suc i) m)) same
    ∙ ap (λ k. missing_of m e.deps ++ all_missing_of m (drop k m)) (sym next)

-- if nothing is missing, the gathered rows are the graph's rows
pub AreRowsOf-if_none_missing : (m : List Instance) (ids : List Id) (rows : List (List ℕ))
    (missing : List Id)
    → AreNodesOf m ids → IsGathered m rows missing → missing ≡ [] → AreRowsOf m ids rows (length m)
AreRowsOf-if_none_missing m ids rows missing nodes is none = (
  ap length is.all.committed ∙ length-map m (λ (e : Instance). positions_of m e.deps),
  each,
) where
  lacks_none : (e : Instance) → Contains m e → (x : Id) → ¬ Contains (missing_of m e.deps) x
  lacks_none e h x c =
      Contains-nil x (subst (λ (l : List Id). Contains l x) (sym is.all.missing ∙ none)
      (Contains-flat_map (λ (d : Instance). missing_of m d.deps) m e x h c))

  each : (k : ℕ) (e : Instance) → k < length m → slice_get m k ≡ Some e
      → ArePositionsOf ids e.deps (row_of rows k)
  each k e l at =
      let h = Contains-slice_get m k e at in
      let rise = AllPairs-from_IsRising e.deps
      (All-contains (λ (d : Instance). IsRising d.deps) m e is.all.deps_rise h) in
      let nothing : ArePositionsOf ids (missing_of m e.deps) [] = record {
        rising = λ i j d low within. absurd (omega arith);
        exact = λ j. (λ c. absurd (Contains-nil j c), λ c. absurd (lacks_none e h c.0 c.1));
      } in
      subst (ArePositionsOf ids e.deps)
      (append-nil (positions_of m e.deps) ∙ sym (row_of-gathered m rows k e is.all.committed at))
      (ArePositionsOf-append m ids nodes e.deps rise [] nothing)

-- ---- the second pass

-- the missing dependencies left begin with those of an instance: as many as its row is shorter
-- than its dependencies
pub record StartsWithMissing (m : List Instance) (i : ℕ) (e : Instance) (row : List ℕ)
    (left : List Id) (short : ℕ) : Type 0 where
  pub known : row ≡ positions_of m e.deps
  pub within : short ≤ length left
  pub these : take short left ≡ missing_of m e.deps
  pub later : drop short left ≡ all_missing_of m (drop (i + 1) m)

module _ (m : List Instance) (rows : List (List ℕ)) (ids : List Id) (is : IsGathered m rows ids)
    (i : ℕ) (e : Instance) (at : slice_get m i ≡ Some e) where
  pub length-row_within : length (row_of rows i) ≤ length e.deps
  length-row_within = omega (
    arith,
    ap length (row_of-gathered m rows i e is.all.committed at),
    length-positions_of m e.deps,
  )

  pub StartsWithMissing-drop : (row : List ℕ) (count : ℕ) (left : List Id) → row ≡ row_of rows i
      → count ≡ length e.deps → left ≡ all_missing_of m (drop i m)
      → StartsWithMissing m i e row left (count - length row)
  StartsWithMissing-drop row count left row_is all rest =
      let short = count - length row in
      let known : row ≡ positions_of m e.deps =
      row_is ∙ row_of-gathered m rows i e is.all.committed at in
      let whole : left ≡ missing_of m e.deps ++ all_missing_of m (drop (i + 1) m) =
      rest ∙ all_missing_of-drop m i e at in
      let many : length (missing_of m e.deps) ≡ short =
      omega (arith, ap length known, all, length-positions_of m e.deps) in
      record {
        known = known;
        within = omega (
          arith,
          ap length whole,
          length-append (missing_of m e.deps) (all_missing_of m (drop (i + 1) m)),
        );
        these = ap (take short) whole ∙ take_at (missing_of m e.deps)
            (all_missing_of m (drop (i + 1) m)) short many;
        later = ap (drop short) whole ∙ drop_at (missing_of m e.deps)
            (all_missing_of m (drop (i + 1) m)) short many;
      }

-- what an instance lacks is by rising Id, and is not committed
pub AllPairs-missing_of : (m : List Instance) (xs : List Id) → IsRising xs
    → AllPairs Below (missing_of m xs)
AllPairs-missing_of m xs rising =
    AllPairs-filter Below (λ (x : Id). not (is_some (position_of m x))) xs
    (AllPairs-from_IsRising xs rising)

pub All-missing_of : (m : List Instance) (xs : List Id)
    → All (λ x. ¬ IsCommitted m x) (missing_of m xs)
All-missing_of m xs = All-weaker (Contains (missing_of m xs)) (λ x. ¬ IsCommitted m x)
    (IsCommitted-not_missing m xs) (missing_of m xs) (All-contains_itself (missing_of m xs))
