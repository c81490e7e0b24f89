-- Commands that are executed level by level are a rearrangement.
use Rattle.std.proofs.Common.{◌≡◌, ◌∙◌, ◌+◌, ◌<◌, ◌++◌, ℕ, zero, suc, List, [], ◌∷◌, length}
use Rattle.std.proofs.Common.{flat_map, slice_index, refl, sym, ap, ap₂, subst, inl, inr, arith}
use Rattle.std.specs.List.{range_with_len}
use Rattle.epx_types.proofs.Common.{cases_lt, flat_map_more, Before, AreLevels, level_count}
use Rattle.epx_types.proofs.Common.{level_positions, IsRearrangement, by_level, levels-climb}
use Rattle.epx_types.proofs.Common.{Contains-from_by_level, Contains-by_level}
use Rattle.epx_types.proofs.Common.{Contains-level_positions, by_level-distinct}
use Rattle.epx_types.proofs.Common.{level_count-above_each}
use Rattle.epx_types.proofs.Common.{Before-across, Before-append_left}
use Rattle.epx_types.specs.declared.op.Op.{Op}
use Rattle.epx_laws.specs.LevelLaws.{AreByLevel}

pub IsRearrangement-by_level : (commands : List (List Op)) (levels positions : List ℕ)
    → AreLevels commands levels → AreByLevel levels positions → IsRearrangement commands positions
IsRearrangement-by_level commands levels positions are by = record {
  once = by.once;
  only = λ i h. omega (arith, (by.whole i).0 h, are.whole);
  whole = λ i l. (by.whole i).1 (omega (arith, l, are.whole));
  keeps = λ i j before conflict.
      let climb = levels-climb commands levels are i j before conflict in
      by.lower_first i j (omega (arith, before, climb.0, are.whole))
      (omega (arith, climb.0, are.whole)) climb.1;
}

-- one more number of a range
range_more : (a n : ℕ) → range_with_len a (suc n) ≡ range_with_len a n ++ (a + n) ∷ []
range_more a zero = let e : a ≡ a + 0 = omega arith in ap (λ k. k ∷ []) e
range_more a (suc n) =
    let e : a + 1 + n ≡ a + suc n = omega arith in
    ap (λ ks. a ∷ ks) (range_more (a + 1) n ∙ ap (λ k. range_with_len (a + 1) n ++ k ∷ []) e)

in_turn : (levels : List ℕ) (n : ℕ)
    → flat_map (level_positions levels) (range_with_len 0 n) ≡ by_level levels n
in_turn levels zero = refl
in_turn levels (suc n) =
    let e : 0 + n ≡ n = omega arith in
    ap (flat_map (level_positions levels)) (range_more 0 n)
    ∙ sym (flat_map_more (level_positions levels) [] (range_with_len 0 n) (0 + n))
    ∙ ap₂ (λ ks k. ks ++ level_positions levels k) (in_turn levels n) e

module _ (levels : List ℕ) where
  lower_first : (n i j : ℕ) → i < length levels → j < length levels → slice_index levels j < n
      → slice_index levels i < slice_index levels j → Before (by_level levels n) i j
  lower_first zero i j in_i in_j below lower = absurd (omega (arith, below))
  lower_first (suc n) i j in_i in_j below lower =
      elim (cases_lt (slice_index levels j) n) [
        | inl less ↦ Before-append_left (by_level levels n) (level_positions levels n) i j
            (lower_first n i j in_i in_j less lower)
        | inr upto ↦ Before-across (by_level levels n) (level_positions levels n) i j
            (Contains-by_level levels n i in_i (omega (arith, below, lower)))
            (Contains-level_positions levels n j in_j (omega (arith, below, upto)))
      ]

  by_level_in_turn : AreByLevel levels (by_level levels (level_count levels))
  by_level_in_turn = record {
    once = by_level-distinct levels (level_count levels);
    whole = λ i. (
      λ h. (Contains-from_by_level levels (level_count levels) i h).0,
      λ l. Contains-by_level levels (level_count levels) i l (level_count-above_each levels i l),
    );
    lower_first = λ i j in_i in_j lower. lower_first (level_count levels) i j in_i in_j
        (level_count-above_each levels j in_j) lower;
  }

  pub AreByLevel-in_turn : AreByLevel levels
      (flat_map (level_positions levels) (range_with_len 0 (level_count levels)))
  AreByLevel-in_turn =
      subst (AreByLevel levels) (sym (in_turn levels (level_count levels))) by_level_in_turn
