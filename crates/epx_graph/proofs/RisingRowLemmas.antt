-- Rising Ids have rising positions, so a row of positions needs no sorting.
use Rattle.std.proofs.Common.{◌≡◌, inl, inr, ℕ, ◌+◌, ◌-◌, ◌<◌, ◌≤◌, not, cond, List, [], ◌∷◌, ◌++◌}
use Rattle.std.proofs.Common.{length, take, drop, get_or, Option, Some, None, is_some, slice_get}
use Rattle.std.proofs.Common.{Contains, All, AllPairs, refl, sym, ap, subst, ◌∙◌, arith}
use Rattle.std.specs.List.{cons_option}
use Rattle.epx_types.proofs.Common.{cases_lt, length-map, take_more, All-get_or, All-contains}
use Rattle.epx_types.proofs.Common.{Contains-append_left, Contains-append_right}
use Rattle.epx_types.proofs.Common.{Contains-append_cases, Contains-push, Contains-push_cases}
use Rattle.epx_types.proofs.Common.{slice_get_within, slice_get-get_or, Below, IsRising, Instance}
use Rattle.epx_types.proofs.Common.{ids_of, position_of, IsCommitted, Contains-nil, Contains-head}
use Rattle.epx_types.proofs.Common.{Contains-cons, Contains-cons_cases, Contains-filter}
use Rattle.epx_types.proofs.Common.{Contains-from_filter, Contains-slice_get}
use Rattle.epx_types.proofs.Common.{slice_get-from_Contains, AllPairs-head, AllPairs-tail}
use Rattle.epx_types.proofs.Common.{AllPairs-slice_get, AllPairs-from_parts, AllPairs-append}
use Rattle.epx_types.proofs.Common.{slice_get-rising_is_unique, position_of-instance}
use Rattle.epx_types.specs.declared.id.Id.{Id}
use Rattle.epx_types.proofs.lists.ListPositionLemmas.{slice_get-map}
use Rattle.epx_graph.specs.inner.Nodes.{positions_of, missing_of, AreNodesOf, ArePositionsOf}
use Rattle.epx_graph.proofs.MissingIdLemmas.{IsCommitted-no_position, lacks-from_missing}
use Rattle.epx_graph.proofs.MissingIdLemmas.{IsCommitted-not_missing}
use Rattle.epx_graph.proofs.MapNodeLemmas.{slice_get-missing_above}
use Rattle.epx_graph.proofs.RisingPositionLemmas.{slice_get-take, slice_get-from_take}
use Rattle.epx_graph.proofs.RisingPositionLemmas.{slice_get-drop, slice_get-from_drop}
use Rattle.epx_graph.proofs.RisingPositionLemmas.{IsRising-positions_back}

-- ---- the positions of no Ids

pub ArePositionsOf-nil : (ids : List Id) → ArePositionsOf ids [] []
ArePositionsOf-nil ids = record {
  rising = λ i j d l within. absurd (omega arith);
  exact = λ j. (λ h. absurd (Contains-nil j h), λ h. absurd (Contains-nil h.0 h.1));
}

-- ---- one Id before the others

positions_skipped : (ids : List Id) (x : Id) (xs : List Id) (row : List ℕ) → ¬ Contains ids x
    → ArePositionsOf ids xs row → ArePositionsOf ids (x ∷ xs) row
positions_skipped ids x xs row lacks are = record {
  rising = are.rising;
  exact = λ j. (
    λ h. let at = (are.exact j).0 h in (at.0, Contains-cons x xs at.0 at.1, at.2),
    λ h. elim (Contains-cons_cases x xs h.0 h.1) [
      | inl first ↦ absurd
          (lacks (subst (Contains ids) (sym first) (Contains-slice_get ids j h.0 h.2)))
      | inr rest ↦ (are.exact j).1 (h.0, rest, h.2)
    ],
  );
}

positions_cons : (ids : List Id) (rising : IsRising ids) (x : Id) (xs : List Id) (i : ℕ)
    (row : List ℕ) → AllPairs Below (x ∷ xs) → slice_get ids i ≡ Some x → ArePositionsOf ids xs row
    → ArePositionsOf ids (x ∷ xs) (i ∷ row)
positions_cons ids rising x xs i row rise at are = record {
  rising = AllPairs-from_parts (λ a b. a < b) i row
      (λ j h. let there = (are.exact j).0 h in
      IsRising-positions_back ids rising i j x there.0 at there.2
      (AllPairs-head Below x xs there.0 rise there.1)) are.rising;
  exact = λ j. (
    λ h. elim (Contains-cons_cases i row j h) [
      | inl first ↦ (x, Contains-head x xs, ap (slice_get ids) (sym first) ∙ at)
      | inr rest ↦ let there = (are.exact j).0 rest in
          (there.0, Contains-cons x xs there.0 there.1, there.2)
    ],
    λ h. elim (Contains-cons_cases x xs h.0 h.1) [
      | inl first ↦
          let same : i ≡ j = slice_get-rising_is_unique ids rising i j x at
          (h.2 ∙ ap Some (sym first)) in
          subst (Contains (i ∷ row)) same (Contains-head i row)
      | inr rest ↦ Contains-cons i row j ((are.exact j).1 (h.0, rest, h.2))
    ],
  );
}

-- ---- committed dependencies

pub ArePositionsOf-positions_of : (m : List Instance) → IsRising (ids_of m) → (xs : List Id)
    → AllPairs Below xs → ArePositionsOf (ids_of m) xs (positions_of m xs)
ArePositionsOf-positions_of m rising [] rise = ArePositionsOf-nil (ids_of m)
ArePositionsOf-positions_of m rising (x ∷ xs) rise =
    by (position_of m x) refl
    (ArePositionsOf-positions_of m rising xs (AllPairs-tail Below x xs rise)) where
      by : (o : Option ℕ) → position_of m x ≡ o → ArePositionsOf (ids_of m) xs (positions_of m xs)
          → ArePositionsOf (ids_of m) (x ∷ xs) (cons_option o (positions_of m xs))
      by None none rest = positions_skipped (ids_of m) x xs (positions_of m xs)
          (IsCommitted-no_position m x none)
          rest
      by (Some i) some rest =
          let position = position_of-instance m x i some in
          positions_cons (ids_of m) rising x xs i (positions_of m xs) rise
          (slice_get-map (λ (e : Instance). e.id) m i position.0 position.1 ∙ ap Some position.2)
          rest

-- each is committed or missing
pub length-positions_of : (m : List Instance) (xs : List Id)
    → length (positions_of m xs) + length (missing_of m xs) ≡ length xs
length-positions_of m [] = refl
length-positions_of m (x ∷ xs) = by (position_of m x) (length-positions_of m xs) where
  by : (o : Option ℕ) → length (positions_of m xs) + length (missing_of m xs) ≡ length xs
      → length (cons_option o (positions_of m xs))
      + length (cond (not (is_some o)) (x ∷ missing_of m xs) (missing_of m xs)) ≡ length (x ∷ xs)
  by None rest = omega (arith, rest)
  by (Some i) rest = omega (arith, rest)

module _ (m : List Instance) (ids : List Id) (nodes : AreNodesOf m ids) where
  -- ---- a row of both

  module _ (xs : List Id) (rise : AllPairs Below xs) (high : List ℕ)
      (are : ArePositionsOf ids (missing_of m xs) high) where
    low : ArePositionsOf (ids_of m) xs (positions_of m xs)
    low = ArePositionsOf-positions_of m nodes.committed_rise xs rise

    apart : (i j : ℕ) → Contains (positions_of m xs) i → Contains high j → i < j
    apart i j h k =
        let p = (low.exact i).0 h in
        let q = (are.exact j).0 k in
        let above =
        slice_get-missing_above m ids nodes q.0 j (IsCommitted-not_missing m xs q.0 q.1) q.2 in
        let within = slice_get_within (ids_of m) i p.0 p.2 in
        omega (arith, length-map m (λ (e : Instance). e.id))

    there : (j : ℕ) → Contains (positions_of m xs ++ high) j
        → (x : Id) × Contains xs x × (slice_get ids j ≡ Some x)
    there j h =
        elim (Contains-append_cases (positions_of m xs) high j h) [
          | inl p ↦
              let at = (low.exact j).0 p in (
                at.0,
                at.1,
                (slice_get-from_take ids (length m) j at.0
                    (ap (λ l. slice_get l j) nodes.committed ∙ at.2)).1,
              )
          | inr q ↦
              let at = (are.exact j).0 q in (
                at.0,
                Contains-from_filter (λ (y : Id). not (is_some (position_of m y))) xs at.0
                    at.1,
                at.2,
              )
        ]

    back : (j : ℕ) (x : Id) → Contains xs x → slice_get ids j ≡ Some x
        → Contains (positions_of m xs ++ high) j
    back j x h at =
        elim (cases_lt j (length m)) [
          | inl l ↦ Contains-append_left (positions_of m xs) high j
              ((low.exact j).1 (
                x,
                h,
                ap (λ l. slice_get l j) (sym nodes.committed)
                    ∙ slice_get-take ids (length m) j x l at,
              ))
          | inr past ↦
              let missing =
              ((nodes.missing.exact x).0
              (Contains-slice_get (drop (length m) ids) (j - length m) x
              (slice_get-drop ids (length m) j x past at))).1 in
              Contains-append_right (positions_of m xs) high j
              ((are.exact j).1 (
                x,
                Contains-filter (λ (y : Id). not (is_some (position_of m y))) xs x h
                    (lacks-from_missing m x missing),
                at,
              ))
        ]

    -- the positions of committed Ids, and then those of missing ones
    pub ArePositionsOf-append : ArePositionsOf ids xs (positions_of m xs ++ high)
    ArePositionsOf-append = record {
      rising = AllPairs-append (λ i j. i < j) (positions_of m xs) high low.rising are.rising apart;
      exact = λ j. (there j, λ h. back j h.0 h.1 h.2);
    }

  -- ---- one more missing Id

  module _ (xs : List Id) (rise : AllPairs Below xs) (lacks : All (λ x. ¬ IsCommitted m x) xs)
      (i : ℕ) (l : i < length xs) (row : List ℕ) (are : ArePositionsOf ids (take i xs) row) where
    abbrev pub x : Id
    x = get_or xs i (record { replica = 0; number = 0 })

    more : take (i + 1) xs ≡ take i xs ++ x ∷ []
    more = take_more xs i (record { replica = 0; number = 0 }) l

    lacks_x : ¬ IsCommitted m x
    lacks_x = All-get_or (λ y. ¬ IsCommitted m y) xs i (record { replica = 0; number = 0 }) l lacks

    -- a numbered Id is not this one, and comes before it
    above : (j : ℕ) → Contains row j → (y : Id) × Below y x × (length m ≤ j)
        × (slice_get ids j ≡ Some y)
    above j h =
        let there = (are.exact j).0 h in
        let at = slice_get-from_Contains (take i xs) there.0 there.1 in
        let before = slice_get-from_take xs i at.0 there.0 at.1 in
        let missing = All-contains (λ y. ¬ IsCommitted m y) xs there.0 lacks
        (Contains-slice_get xs at.0 there.0 before.1) in (
          there.0,
          AllPairs-slice_get Below xs rise at.0 i there.0 x before.0 before.1
              (slice_get-get_or xs i (record { replica = 0; number = 0 }) l),
          slice_get-missing_above m ids nodes there.0 j missing there.2,
          there.2,
        )

    pub ArePositionsOf-skip : ¬ Contains (drop (length m) ids) x
        → ArePositionsOf ids (take (i + 1) xs) row
    ArePositionsOf-skip none =
        subst (λ (ys : List Id). ArePositionsOf ids ys row) (sym more) (record {
          rising = are.rising;
          exact = λ j. (
            λ h. let there = (are.exact j).0 h in
                (there.0, Contains-append_left (take i xs) (x ∷ []) there.0 there.1, there.2),
            λ h. elim (Contains-push_cases (take i xs) x h.0 h.1) [
              | inl old ↦ (are.exact j).1 (h.0, old, h.2)
              | inr last ↦
                  let at : slice_get ids j ≡ Some x = h.2 ∙ ap Some (sym last) in
                  absurd (none (Contains-slice_get (drop (length m) ids) (j - length m) x
                  (slice_get-drop ids (length m) j x
                  (slice_get-missing_above m ids nodes x j lacks_x at)
                  at)))
            ],
          );
        })

    pub ArePositionsOf-push : (index : ℕ) → slice_get (drop (length m) ids) index ≡ Some x
        → ArePositionsOf ids (take (i + 1) xs) (row ++ (length m + index) ∷ [])
    ArePositionsOf-push index at =
        subst (λ (ys : List Id). ArePositionsOf ids ys (row ++ (length m + index) ∷ [])) (sym more)
        (record {
          rising = AllPairs-append (λ a b. a < b) row ((length m + index) ∷ []) are.rising
              (λ a b d low within. absurd (omega arith)) below;
          exact = λ j. (
            λ h. elim (Contains-push_cases row (length m + index) j h) [
              | inl old ↦ let there = (are.exact j).0 old in
                  (there.0, Contains-append_left (take i xs) (x ∷ []) there.0 there.1, there.2)
              | inr last ↦ (x, Contains-push (take i xs) x, ap (slice_get ids) (sym last) ∙ number)
            ],
            λ h. elim (Contains-push_cases (take i xs) x h.0 h.1) [
              | inl old ↦ Contains-append_left row ((length m + index) ∷ []) j
                  ((are.exact j).1 (h.0, old, h.2))
              | inr last ↦ subst (Contains (row ++ (length m + index) ∷ []))
                  (one j (h.2 ∙ ap Some (sym last))) (Contains-push row (length m + index))
            ],
          );
        }) where
          number : slice_get ids (length m + index) ≡ Some x
          number = slice_get-from_drop ids (length m) index x at

          one : (j : ℕ) → slice_get ids j ≡ Some x → length m + index ≡ j
          one j there =
              let past = slice_get-missing_above m ids nodes x j lacks_x there in
              let same = slice_get-rising_is_unique (drop (length m) ids) nodes.missing.rising index
              (j - length m) x at (slice_get-drop ids (length m) j x past there) in
              omega arith

          below : (a b : ℕ) → Contains row a → Contains ((length m + index) ∷ []) b → a < b
          below a b h k =
              let old = above a h in
              let lower = IsRising-positions_back (drop (length m) ids) nodes.missing.rising
              (a - length m) index old.0 x (slice_get-drop ids (length m) a old.0 old.2 old.3) at
              old.1 in
              elim (Contains-cons_cases (length m + index) [] b k) [
                | inl same ↦ omega (arith, old.2)
                | inr none ↦ absurd (Contains-nil b none)
              ]
