-- The positions of a list of commands, level by level, are a rearrangement. No two commands of one
-- level conflict.
use Rattle.std.proofs.Common.{◌≡◌, ◌≢◌, ◌⊎◌, ◌<◌, ◌≤◌, ◌+◌, ◌∙◌, ℕ, zero, suc, List, [], ◌∷◌, ◌++◌}
use Rattle.std.proofs.Common.{length, get_or, slice_get, slice_index, slice_index_or, Contains}
use Rattle.std.proofs.Common.{AllPairs, Some, sym, ap, subst, inl, inr, arith}
use Rattle.std.proofs.lemmas.Bool.{cases_lt}
use Rattle.std.proofs.lemmas.List.{get_or_past}
use Rattle.std.proofs.lemmas.Bool.Decides.{eqb_tells}
use Rattle.std.proofs.lemmas.List.Elements.{Contains-append_left, Contains-append_right}
use Rattle.std.proofs.lemmas.List.Elements.{Contains-append_cases}
use Rattle.std.proofs.lemmas.Option.{slice_get_within, slice_get-get_or, get_or_from_slice_get}
use Rattle.epx_types.specs.declared.op.Op.{Op}
use Rattle.epx_types.specs.Conflicts.{Conflict, NoneConflict}
use Rattle.epx_types.specs.Levels.{ConflictAt, AreLevels, level_count, level_positions_from}
use Rattle.epx_types.specs.Levels.{level_positions}
use Rattle.epx_types.specs.LawfulOrders.{Before}
use Rattle.epx_types.specs.Rearrangements.{commands_at, IsRearrangement}
use Rattle.epx_types.proofs.lists.MembershipLemmas.{Contains-nil, Contains-head, Contains-cons}
use Rattle.epx_types.proofs.lists.MembershipLemmas.{Contains-cons_cases, Contains-from_map}
use Rattle.epx_types.proofs.lists.ListPositionLemmas.{AllPairs-slice_get, AllPairs-from_parts}
use Rattle.epx_types.proofs.lists.ListPositionLemmas.{AllPairs-append, AllPairs-head}
use Rattle.epx_types.proofs.lists.ListPositionLemmas.{AllPairs-tail, slice_get-from_Contains}
use Rattle.epx_types.proofs.levels.LevelLemmas.{IsLevel-rises}
use Rattle.epx_types.proofs.levels.LevelPositionLemmas.{level_count-above_each}

-- ---- the positions of one level

-- a position of a level, in a list that begins at position j
pub Contains-from_level_positions_from : (j : ℕ) (levels : List ℕ) (l i : ℕ)
    → Contains (level_positions_from j levels l) i
    → (k : ℕ) × (i ≡ j + k) × (slice_get levels k ≡ Some l)
Contains-from_level_positions_from j [] l i h = absurd (Contains-nil i h)
Contains-from_level_positions_from j (level ∷ levels) l i h =
    elim (eqb_tells level l) [
      | inl same ↦ elim (Contains-cons_cases j (level_positions_from (suc j) levels l) i
          (rw same.0 at h)) [
            | inl here ↦ (0, omega (arith, here), ap Some same.1)
            | inr later ↦ further (Contains-from_level_positions_from (suc j) levels l i later)
          ]
      | inr other ↦ further
          (Contains-from_level_positions_from (suc j) levels l i (rw other.0 at h))
    ]
  where
    further : (k : ℕ) × (i ≡ suc j + k) × (slice_get levels k ≡ Some l)
        → (k : ℕ) × (i ≡ j + k) × (slice_get (level ∷ levels) k ≡ Some l)
    further (k, e, at) = (suc k, omega (arith, e), at)

pub Contains-level_positions_from : (j : ℕ) (levels : List ℕ) (l k : ℕ)
    → slice_get levels k ≡ Some l → Contains (level_positions_from j levels l) (j + k)
Contains-level_positions_from j [] l k e = absurd (cc e)
Contains-level_positions_from j (level ∷ levels) l zero e =
    elim (eqb_tells level l) [
      | inl same ↦ rw same.0 (subst (Contains (j ∷ level_positions_from (suc j) levels l))
          (omega arith) (Contains-head j (level_positions_from (suc j) levels l)))
      | inr other ↦ absurd (other.1 (cc e))
    ]
Contains-level_positions_from j (level ∷ levels) l (suc k) e =
    let later : Contains (level_positions_from (suc j) levels l) (j + suc k) =
    subst (Contains (level_positions_from (suc j) levels l)) (omega arith)
    (Contains-level_positions_from (suc j) levels l k e) in
    elim (eqb_tells level l) [
      | inl same ↦ rw same.0
          (Contains-cons j (level_positions_from (suc j) levels l) (j + suc k) later)
      | inr other ↦ rw other.0 later
    ]

level_positions_from-rising : (j : ℕ) (levels : List ℕ) (l : ℕ)
    → AllPairs (λ i k. i < k) (level_positions_from j levels l)
level_positions_from-rising j [] l = λ i k d less within. absurd (omega arith)
level_positions_from-rising j (level ∷ levels) l =
    let rest = level_positions_from-rising (suc j) levels l in
    elim (eqb_tells level l) [
      | inl same ↦ rw same.0
          (AllPairs-from_parts (λ i k. i < k) j (level_positions_from (suc j) levels l)
          (λ i h. let from = Contains-from_level_positions_from (suc j) levels l i h in
          omega (arith, from.1)) rest)
      | inr other ↦ rw other.0 rest
    ]

length-level_positions_from : (j : ℕ) (levels : List ℕ) (l : ℕ)
    → length (level_positions_from j levels l) ≤ length levels
length-level_positions_from j [] l = omega arith
length-level_positions_from j (level ∷ levels) l =
    let rest = length-level_positions_from (suc j) levels l in
    elim (eqb_tells level l) [
      | inl same ↦ rw same.0 (omega arith)
      | inr other ↦ rw other.0 (omega arith)
    ]

-- a level has at most as many positions as the list
pub length-level_positions : (levels : List ℕ) (l : ℕ)
    → length (level_positions levels l) ≤ length levels
length-level_positions levels l = length-level_positions_from 0 levels l

-- they rise
pub level_positions-rising : (levels : List ℕ) (l : ℕ)
    → AllPairs (λ i k. i < k) (level_positions levels l)
level_positions-rising levels l = level_positions_from-rising 0 levels l

-- they are positions of the list with that level
pub Contains-from_level_positions : (levels : List ℕ) (l i : ℕ)
    → Contains (level_positions levels l) i → (i < length levels) × (slice_index levels i ≡ l)
Contains-from_level_positions levels l i h =
    let from = Contains-from_level_positions_from 0 levels l i h in
    let position : from.0 ≡ i = omega (arith, from.1) in
    let at : slice_get levels i ≡ Some l =
    subst (λ (k : ℕ). slice_get levels k ≡ Some l) position from.2 in
    (slice_get_within levels i l at, get_or_from_slice_get levels i l 0 at)

-- and all positions with that level are among them
pub Contains-level_positions : (levels : List ℕ) (l i : ℕ) → i < length levels
    → slice_index levels i ≡ l → Contains (level_positions levels l) i
Contains-level_positions levels l i within e =
    let at : slice_get levels i ≡ Some l = slice_get-get_or levels i 0 within ∙ ap Some e in
    subst (Contains (level_positions levels l)) (omega arith)
    (Contains-level_positions_from 0 levels l i at)

-- ---- the positions of all levels, one level after another

-- the positions of the levels below l
abbrev pub by_level : List ℕ → ℕ → List ℕ
by_level levels zero = []
by_level levels (suc l) = by_level levels l ++ level_positions levels l

-- a position has a lower level, or the same level and is less
abbrev IsAtLowerLevel : List ℕ → ℕ → ℕ → Type 0
IsAtLowerLevel levels i j = (slice_index levels i < slice_index levels j)
    ⊎ ((slice_index levels i ≡ slice_index levels j) × (i < j))

module _ (levels : List ℕ) where
  pub Contains-from_by_level : (l i : ℕ) → Contains (by_level levels l) i
      → (i < length levels) × (slice_index levels i < l)
  Contains-from_by_level zero i h = absurd (Contains-nil i h)
  Contains-from_by_level (suc l) i h =
      elim (Contains-append_cases (by_level levels l) (level_positions levels l) i h) [
        | inl lower ↦ let from = Contains-from_by_level l i lower in
            (from.0, omega (arith, from.1))
        | inr here ↦ let from = Contains-from_level_positions levels l i here in
            (from.0, omega (arith, from.1))
      ]

  pub Contains-by_level : (l i : ℕ) → i < length levels → slice_index levels i < l
      → Contains (by_level levels l) i
  Contains-by_level zero i within below = absurd (omega arith)
  Contains-by_level (suc l) i within below =
      elim (cases_lt (slice_index levels i) l) [
        | inl lower ↦ Contains-append_left (by_level levels l) (level_positions levels l) i
            (Contains-by_level l i within lower)
        | inr upper ↦ Contains-append_right (by_level levels l) (level_positions levels l) i
            (Contains-level_positions levels l i within (omega arith))
      ]

  by_level-lower : (l : ℕ) → AllPairs (IsAtLowerLevel levels) (by_level levels l)
  by_level-lower zero = λ i j d less within. absurd (omega arith)
  by_level-lower (suc l) =
      AllPairs-append (IsAtLowerLevel levels) (by_level levels l) (level_positions levels l)
      (by_level-lower l) (by (level_positions levels l)
      (Contains-from_level_positions levels l) (level_positions-rising levels l)) (λ i j h k.
      let low = Contains-from_by_level l i h in
      let high = Contains-from_level_positions levels l j k in
      inl (omega (arith, low.1, high.1)))
    where
      by : (positions : List ℕ)
          → ((i : ℕ) → Contains positions i → (i < length levels) × (slice_index levels i ≡ l))
          → AllPairs (λ i j. i < j) positions → AllPairs (IsAtLowerLevel levels) positions
      by [] has rises = λ i j d less within. absurd (omega arith)
      by (i ∷ positions) has rises =
          AllPairs-from_parts (IsAtLowerLevel levels) i positions
          (λ j h. inr (
            (has i (Contains-head i positions)).1
                ∙ sym (has j (Contains-cons i positions j h)).1,
            AllPairs-head (λ k m. k < m) i positions j rises h,
          ))
          (by positions (λ j h. has j (Contains-cons i positions j h))
          (AllPairs-tail (λ k m. k < m) i positions rises))

  pub by_level-distinct : (l : ℕ) → AllPairs (λ i j. i ≢ j) (by_level levels l)
  by_level-distinct l i j d less within e =
      elim (by_level-lower l i j d less within) [
        | inl lower ↦ let same : slice_index levels (get_or (by_level levels l) i d)
            ≡ slice_index levels (get_or (by_level levels l) j d) = ap (slice_index levels) e in
            omega (arith, same, lower)
        | inr other ↦ omega (arith, e, other.1)
      ]

-- ---- by the levels of commands

pub Conflict-not_past_end : (a : List Op) → ¬ Conflict a []
Conflict-not_past_end a (k, inl both) = Contains-nil k both.1
Conflict-not_past_end a (k, inr both) = Contains-nil k both.1

module _ (commands : List (List Op)) (levels : List ℕ) (are : AreLevels commands levels) where
  -- of two commands that conflict, the later has the greater level
  pub levels-climb : (i j : ℕ) → i < j → ConflictAt commands i j
      → (j < length commands) × (slice_index levels i < slice_index levels j)
  levels-climb i j before conflict =
      elim (cases_lt j (length commands)) [
        | inl within ↦ (
          within,
          IsLevel-rises commands i j (slice_index levels i)
              (slice_index levels j) before conflict (are.each i (omega arith))
              (are.each j within),
        )
        | inr past ↦ absurd
            (Conflict-not_past_end (slice_index_or commands i [])
            (subst (Conflict (slice_index_or commands i [])) (get_or_past commands j [] past)
            conflict))
      ]

  -- no two commands of one level conflict
  pub level-no_conflict : (l : ℕ) → NoneConflict (commands_at commands (level_positions levels l))
  level-no_conflict l = by (level_positions levels l) (Contains-from_level_positions levels l)
      (level_positions-rising levels l) where
        by : (positions : List ℕ)
            → ((i : ℕ) → Contains positions i → (i < length levels) × (slice_index levels i ≡ l))
            → AllPairs (λ i j. i < j) positions → NoneConflict (commands_at commands positions)
        by [] has rises = tt
        by (i ∷ positions) has rises = (
          λ b h conflict.
              let from = Contains-from_map (λ j. slice_index_or commands j []) positions b h in
              let before = AllPairs-head (λ k m. k < m) i positions from.0 rises from.1 in
              let climb = levels-climb i from.0 before
              (subst (Conflict (slice_index_or commands i [])) (sym from.2) conflict) in
              let low = has i (Contains-head i positions) in
              let high = has from.0 (Contains-cons i positions from.0 from.1) in
              omega (arith, climb.1, low.1, high.1),
          by positions (λ j h. has j (Contains-cons i positions j h))
              (AllPairs-tail (λ k m. k < m) i positions rises),
        )

  -- the positions of all levels, one level after another
  abbrev all : List ℕ
  all = by_level levels (level_count levels)

  in_all : (i : ℕ) → i < length commands → Contains all i
  in_all i within =
      let position : i < length levels = omega (arith, are.whole) in
      Contains-by_level levels (level_count levels) i position
      (level_count-above_each levels i position)

  -- of two positions, the one with the lower level comes first
  lower_before : (i j : ℕ) → i < length commands → j < length commands
      → slice_index levels i < slice_index levels j → Before all i j
  lower_before i j in_i in_j lower =
      let a = slice_get-from_Contains all i (in_all i in_i) in
      let b = slice_get-from_Contains all j (in_all j in_j) in
      elim (cases_lt a.0 b.0) [
        | inl less ↦ (a.0, b.0, less, a.1, b.1)
        | inr upto ↦ elim (cases_lt b.0 a.0) [
          | inl less ↦ elim (AllPairs-slice_get (IsAtLowerLevel levels) all
              (by_level-lower levels (level_count levels)) b.0 a.0 j i less b.1 a.1) [
                | inl turned ↦ absurd (omega (arith, turned, lower))
                | inr tied ↦ absurd (omega (arith, tied.0, lower))
              ]
          | inr other ↦
              let one : Some i ≡ Some j = sym a.1 ∙ ap (slice_get all) (omega arith) ∙ b.1 in
              let same : i ≡ j = cc one in
              let level : slice_index levels i ≡ slice_index levels j =
              ap (slice_index levels) same in
              absurd (omega (arith, level, lower))
        ]
      ]

  -- the positions level by level are a rearrangement of the commands
  pub by_level-rearranges : IsRearrangement commands (by_level levels (level_count levels))
  by_level-rearranges = record {
    once = by_level-distinct levels (level_count levels);
    only = λ i h. let from = Contains-from_by_level levels (level_count levels) i h in
        omega (arith, from.0, are.whole);
    whole = in_all;
    keeps = λ i j before conflict.
        let climb = levels-climb i j before conflict in
        lower_before i j (omega (arith, climb.0)) climb.0 climb.1;
  }
