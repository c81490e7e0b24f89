-- What is left of a map: the positions of its instances and of other Ids.
use Rattle.std.proofs.Common.{◌≡◌, ℕ, zero, suc, ◌+◌, ◌<◌, List, [], ◌∷◌, ◌++◌, length, take}
use Rattle.std.proofs.Common.{Option, Some, None, cond, not, get_or, slice_get, Contains, refl, sym}
use Rattle.std.proofs.Common.{ap, ◌∙◌, subst, inl, inr, append-nil, arith}
use Rattle.epx_types.proofs.Common.{cases_lt, append_assoc, length_push, nil_from_length}
use Rattle.epx_types.proofs.Common.{get_or_append_left, get_or_push, get_or_read, take_all}
use Rattle.epx_types.proofs.Common.{take_more, filter-append, AllPairs-filter, slice_get_within}
use Rattle.epx_types.proofs.Common.{slice_get-get_or, Below, IsRising, Instance, ids_of}
use Rattle.epx_types.proofs.Common.{position_of, is_among, without_deps, remaining, remaining_ids}
use Rattle.epx_types.proofs.Common.{Contains-remaining_iff, IsRising-remaining, is_among-cases}
use Rattle.epx_types.proofs.Common.{is_among-false, remaining-nil, remaining-skip, remaining-more}
use Rattle.epx_types.proofs.Common.{remaining-position, Contains-nil, Contains-slice_get}
use Rattle.epx_types.proofs.Common.{position_of-instance, position_of-found, AllPairs-from_IsRising}
use Rattle.epx_types.proofs.Common.{IsRising-from_AllPairs}
use Rattle.epx_types.specs.declared.id.Id.{Id}
use Rattle.epx_types.proofs.lists.ListPositionLemmas.{slice_get-map}
use Rattle.epx_graph.specs.inner.Remainder.{RemainderView, rest_of, IsIdStateOf, IsAtPosition}
use Rattle.epx_graph.specs.inner.Remainder.{IsPositionLeft, ArePositionTables}
use Rattle.epx_graph.specs.inner.Nodes.{missing_of, positions_of}
use Rattle.epx_graph.specs.declared.remainder.IdState.{IdState}
use Rattle.epx_graph.specs.declared.remainder.IdState.TheVariants as found
use Rattle.epx_graph.proofs.GatherRowLemmas.{positions_of-skip, positions_of-push}
use Rattle.epx_graph.proofs.MissingIdLemmas.{IsCommitted-no_position, position_of-if_missing}
use Rattle.epx_graph.proofs.MissingIdLemmas.{missing_of-skip, missing_of-push}

-- ---- the Ids of a list that are not done

module _ (done : List Id) where
  rest_push : (xs : List Id) (x : Id) → remaining_ids done (xs ++ x ∷ [])
      ≡ remaining_ids done xs ++ cond (not (is_among done x)) (x ∷ []) []
  rest_push xs x = filter-append (λ y. not (is_among done y)) xs (x ∷ [])

  pub remaining_ids-skip : (xs : List Id) (x : Id) → Contains done x
      → remaining_ids done (xs ++ x ∷ []) ≡ remaining_ids done xs
  remaining_ids-skip xs x among =
      elim (is_among-cases done x) [
        | inl found ↦ rest_push xs x ∙ ap (λ b. remaining_ids done xs ++ cond (not b) (x ∷ []) [])
            found.0 ∙ append-nil (remaining_ids done xs)
        | inr other ↦ absurd (other.1 among)
      ]

  pub remaining_ids-push : (xs : List Id) (x : Id) → ¬ Contains done x
      → remaining_ids done (xs ++ x ∷ []) ≡ remaining_ids done xs ++ x ∷ []
  remaining_ids-push xs x left = rest_push xs x
      ∙ ap (λ b. remaining_ids done xs ++ cond (not b) (x ∷ []) []) (is_among-false done x left)

  -- one more Id of a list
  pub length-remaining_skip : (xs : List Id) (i : ℕ) (d : Id) → i < length xs
      → Contains done (get_or xs i d)
      → length (remaining_ids done (take (i + 1) xs)) ≡ length (remaining_ids done (take i xs))
  length-remaining_skip xs i d l among =
      ap (λ ys. length (remaining_ids done ys)) (take_more xs i d l)
      ∙ ap length (remaining_ids-skip (take i xs) (get_or xs i d) among)

  pub length-remaining_push : (xs : List Id) (i : ℕ) (d : Id) → i < length xs
      → ¬ Contains done (get_or xs i d) → length (remaining_ids done (take (i + 1) xs))
      ≡ length (remaining_ids done (take i xs)) + 1
  length-remaining_push xs i d l left =
      ap (λ ys. length (remaining_ids done ys)) (take_more xs i d l)
      ∙ ap length (remaining_ids-push (take i xs) (get_or xs i d) left)
      ∙ length_push (remaining_ids done (take i xs)) (get_or xs i d)

  pub IsRising-remaining_ids : (xs : List Id) → IsRising xs → IsRising (remaining_ids done xs)
  IsRising-remaining_ids xs rising = IsRising-from_AllPairs (remaining_ids done xs)
      (AllPairs-filter Below (λ x. not (is_among done x)) xs (AllPairs-from_IsRising xs rising))

-- ---- where nothing is done

rest-nil : (xs : List Id) → remaining_ids [] xs ≡ xs
rest-nil [] = refl
rest-nil (x ∷ xs) = ap (λ ys. x ∷ ys) (rest-nil xs)

pub remaining_ids-none_done : (done xs : List Id) → length done ≡ 0 → remaining_ids done xs ≡ xs
remaining_ids-none_done done xs none = ap (λ ds. remaining_ids ds xs) (nil_from_length done none)
    ∙ rest-nil xs

position-nil : (m : List Instance) (p : ℕ) (e : Instance) → slice_get m p ≡ Some e
    → slice_get (remaining [] m) p ≡ Some (without_deps [] e)
position-nil [] p e at = absurd (cc at)
position-nil (d ∷ m) zero e at = let same : d ≡ e = cc at in
    ap (λ (x : Instance). Some (without_deps [] x)) same
position-nil (d ∷ m) (suc p) e at = position-nil m p e at

module _ (r : RemainderView) (none : length r.done ≡ 0) where
  pub rest_of-none_done : rest_of r ≡ r.whole
  rest_of-none_done = ap (λ done. remaining done r.whole) (nil_from_length r.done none)
      ∙ remaining-nil r.whole

  -- each instance has the same position as in the map
  pub IsAtPosition-same : (p : ℕ) → p < length (rest_of r) → IsAtPosition r p p
  IsAtPosition-same p l =
      let d : Instance = record {
        id = record { replica = 0; number = 0 };
        seq = 0;
        deps = [];
        ops = [];
      } in
      let at = slice_get-get_or r.whole p d (omega (arith, l, ap length rest_of-none_done)) in (
        get_or r.whole p d,
        at,
        subst (λ (done : List Id). slice_get (remaining done r.whole) p
            ≡ Some (without_deps done (get_or r.whole p d))) (sym (nil_from_length r.done none))
            (position-nil r.whole p (get_or r.whole p d) at),
      )

  pub IsIdStateOf-found : (x : Id) (p : ℕ) → position_of r.whole x ≡ Some p
      → IsIdStateOf r x (found.Left p)
  IsIdStateOf-found x p at = (
    λ h. Contains-nil x (subst (λ (ds : List Id). Contains ds x) (nil_from_length r.done none)
        h),
    ap (λ m. position_of m x) rest_of-none_done ∙ at,
  )

-- ---- the tables

module _ (r : RemainderView) (positions : List ℕ) (positions_left : List (Option ℕ)) (n : ℕ)
    (e : Instance) (at : slice_get r.whole n ≡ Some e)
    (are : ArePositionTables r positions positions_left n) where
  tables_push : (index : Option ℕ) → IsPositionLeft r e index → (p : ℕ) (d : Instance) → p < n + 1
      → slice_get r.whole p ≡ Some d
      → IsPositionLeft r d (get_or (positions_left ++ index ∷ []) p None)
  tables_push index is p d l there =
      elim (cases_lt p n) [
        | inl lower ↦ subst (IsPositionLeft r d)
            (sym (get_or_append_left positions_left (index ∷ []) None p (omega (arith, are.all))))
            (are.all_positions_left p d lower there)
        | inr not_lower ↦
            let same : p ≡ n = omega arith in
            let one : Some d ≡ Some e = sym there ∙ ap (slice_get r.whole) same ∙ at in
            let of : d ≡ e = cc one in
            let last : get_or (positions_left ++ index ∷ []) p None ≡ index =
            get_or_push positions_left index None p (omega (arith, are.all)) in
            subst (IsPositionLeft r d) (sym last)
            (subst (λ (i : Instance). IsPositionLeft r i index) (sym of) is)
      ]

  -- one more instance, which is done
  pub ArePositionTables-skip : Contains r.done e.id
      → ArePositionTables r positions (positions_left ++ None ∷ []) (n + 1)
  ArePositionTables-skip among = record {
    many = are.many ∙ ap length (sym (remaining-skip r.done r.whole n e at among));
    at_positions = are.at_positions;
    all = length_push positions_left None ∙ ap (λ k. k + 1) are.all;
    all_positions_left = tables_push None among;
  }

  -- one more instance, which is left
  pub ArePositionTables-push : ¬ Contains r.done e.id
      → ArePositionTables r (positions ++ n ∷ []) (positions_left ++ Some (length positions) ∷ [])
      (n + 1)
  ArePositionTables-push left = record {
    many = length_push positions n ∙ ap (λ k. k + 1) are.many
        ∙ sym (ap length (remaining-more r.done r.whole n e at left)
        ∙ length_push (remaining r.done (take n r.whole)) (without_deps r.done e));
    at_positions = at_positions;
    all = length_push positions_left (Some (length positions)) ∙ ap (λ k. k + 1) are.all;
    all_positions_left = tables_push (Some (length positions)) here;
  } where
    here : slice_get (rest_of r) (length positions) ≡ Some (without_deps r.done e)
    here = ap (slice_get (rest_of r)) are.many ∙ remaining-position r.done r.whole n e at left

    at_positions : (k : ℕ) → k < length (positions ++ n ∷ [])
        → IsAtPosition r (get_or (positions ++ n ∷ []) k 0) k
    at_positions k l =
        elim (cases_lt k (length positions)) [
          | inl lower ↦ subst (λ p. IsAtPosition r p k)
              (sym (get_or_append_left positions (n ∷ []) 0 k lower)) (are.at_positions k lower)
          | inr not_lower ↦
              let same : length positions ≡ k = omega (arith, l, length_push positions n) in
              subst (λ p. IsAtPosition r p k) (sym (get_or_push positions n 0 k same))
              (e, at, ap (slice_get (rest_of r)) (sym same) ∙ here)
        ]

module _ (r : RemainderView) (positions : List ℕ) (positions_left : List (Option ℕ))
    (are : ArePositionTables r positions positions_left (length r.whole)) where
  pub length-table : length positions ≡ length (rest_of r)
  length-table = are.many ∙ ap (λ es. length (remaining r.done es))
      (take_all (length r.whole) r.whole (omega arith))

  -- what the table says of the position of an instance that is left
  pub IsAtPosition-from_table : (k p : ℕ) → k < length (rest_of r) → p ≡ get_or positions k p
      → IsAtPosition r p k
  IsAtPosition-from_table k p l read =
      let within : k < length positions = omega (arith, l, length-table) in
      subst (λ i. IsAtPosition r i k) (sym (get_or_read positions k p within read 0))
      (are.at_positions k within)

  -- what the table says of the instance at a position
  position_read : (p : ℕ) (e : Instance) (index : Option ℕ) → slice_get r.whole p ≡ Some e
      → index ≡ get_or positions_left p index → IsPositionLeft r e index
  position_read p e index at read =
      let l = slice_get_within r.whole p e at in
      subst (IsPositionLeft r e)
      (sym (get_or_read positions_left p index (omega (arith, are.all)) read None))
      (are.all_positions_left p e l at)

  -- and of the Id at it
  pub IsIdStateOf-left : IsRising (ids_of r.whole) → (p k : ℕ) (x : Id) (index : Option ℕ)
      → position_of r.whole x ≡ Some p → index ≡ get_or positions_left p index → index ≡ Some k
      → IsIdStateOf r x (found.Left k)
  IsIdStateOf-left rising p k x index at read some =
      let e = position_of-instance r.whole x p at in
      let there : slice_get (rest_of r) k ≡ Some (without_deps r.done e.0) =
      subst (IsPositionLeft r e.0) some (position_read p e.0 index e.1 read) in
      let is = Contains-slice_get (ids_of (rest_of r)) k x
      (slice_get-map (λ (i : Instance). i.id) (rest_of r) k (without_deps r.done e.0) there
      ∙ ap Some e.2) in (
        ((Contains-remaining_iff r.done r.whole x).0 is).1,
        position_of-found (rest_of r) (IsRising-remaining r.done r.whole rising) x k
            (without_deps r.done e.0) there e.2,
      )

  pub Contains-done : (p : ℕ) (x : Id) (index : Option ℕ) → position_of r.whole x ≡ Some p
      → index ≡ get_or positions_left p index → index ≡ None → Contains r.done x
  Contains-done p x index at read none =
      let e = position_of-instance r.whole x p at in
      subst (Contains r.done) e.2
      (subst (IsPositionLeft r e.0) none (position_read p e.0 index e.1 read))

-- an Id without a position is not left
pub IsIdStateOf-missing : (r : RemainderView) (x : Id) → position_of r.whole x ≡ None
    → ¬ Contains r.done x → IsIdStateOf r x found.Missing
IsIdStateOf-missing r x none left = (
  left,
  position_of-if_missing (rest_of r) x
      (λ h. IsCommitted-no_position r.whole x none
      ((Contains-remaining_iff r.done r.whole x).0 h).0),
)

-- ---- Ids gathered one after another

-- what an Id adds to the positions, and to the missing Ids
abbrev pub positions_found : IdState → List ℕ
positions_found (found.Left k) = k ∷ []
positions_found found.Done = []
positions_found found.Missing = []

abbrev pub missing_found : Id → IdState → List Id
missing_found x (found.Left k) = []
missing_found x found.Done = []
missing_found x found.Missing = x ∷ []

module _ (r : RemainderView) where
  abbrev positions_in : List Id → List ℕ
  positions_in xs = positions_of (rest_of r) (remaining_ids r.done xs)

  abbrev missing_in : List Id → List Id
  missing_in xs = missing_of (rest_of r) (remaining_ids r.done xs)

  gathered_push : (xs : List Id) (x : Id) (f : IdState) → IsIdStateOf r x f
      → (positions_in (xs ++ x ∷ []) ≡ positions_in xs ++ positions_found f)
      × (missing_in (xs ++ x ∷ []) ≡ missing_in xs ++ missing_found x f)
  gathered_push xs x (found.Left k) is =
      let rest = remaining_ids-push r.done xs x is.0 in (
        ap (positions_of (rest_of r)) rest
            ∙ positions_of-push (rest_of r) (remaining_ids r.done xs) x
            k is.1,
        ap (missing_of (rest_of r)) rest ∙ missing_of-skip (rest_of r) (remaining_ids r.done xs) x k
            is.1 ∙ sym (append-nil (missing_in xs)),
      )
  gathered_push xs x found.Done is =
      let rest = remaining_ids-skip r.done xs x is in (
        ap (positions_of (rest_of r)) rest ∙ sym (append-nil (positions_in xs)),
        ap (missing_of (rest_of r)) rest ∙ sym (append-nil (missing_in xs)),
      )
  gathered_push xs x found.Missing is =
      let rest = remaining_ids-push r.done xs x is.0 in (
        ap (positions_of (rest_of r)) rest
            ∙ positions_of-skip (rest_of r) (remaining_ids r.done xs) x
            is.1 ∙ sym (append-nil (positions_in xs)),
        ap (missing_of (rest_of r)) rest ∙ missing_of-push (rest_of r) (remaining_ids r.done xs) x
            is.1,
      )

  -- one more Id
  pub positions_in-take : (xs : List Id) (i : ℕ) (d : Id) → i < length xs → (f : IdState)
      → IsIdStateOf r (get_or xs i d) f
      → (old numbers new : List ℕ) (before missing after : List Id)
      → numbers ≡ old ++ positions_in (take i xs) → missing ≡ before ++ missing_in (take i xs)
      → new ≡ numbers ++ positions_found f → after ≡ missing ++ missing_found (get_or xs i d) f
      → (new ≡ old ++ positions_in (take (i + 1) xs))
      × (after ≡ before ++ missing_in (take (i + 1) xs))
  positions_in-take xs i d l f is old numbers new before missing after numbers_are missing_are
      new_is
      after_is =
      let x = get_or xs i d in
      let next = gathered_push (take i xs) x f is in
      let more = sym (take_more xs i d l) in (
        new_is ∙ ap (λ ks. ks ++ positions_found f) numbers_are
            ∙ append_assoc old (positions_in (take i xs)) (positions_found f)
            ∙ ap (λ ks. old ++ ks) (sym next.0 ∙ ap positions_in more),
        after_is ∙ ap (λ ys. ys ++ missing_found x f) missing_are
            ∙ append_assoc before (missing_in (take i xs)) (missing_found x f)
            ∙ ap (λ ys. before ++ ys) (sym next.1 ∙ ap missing_in more),
      )
