-- Counts of nodes, after one more node.
use Rattle.std.proofs.Common.{◌≡◌, ◌≢◌, ◌⊎◌, inl, inr, ℕ, ◌+◌, ◌-◌, ◌<◌, ◌≤◌, List, [], ◌∷◌, ◌++◌}
use Rattle.std.proofs.Common.{length, get_or, set, take, AllPairs, Contains, refl, sym, ap, subst}
use Rattle.std.proofs.Common.{◌∙◌, arith}
use Rattle.epx_types.proofs.Common.{cases_lt, cases_eq, Contains-nil, Contains-append_left}
use Rattle.epx_types.proofs.Common.{Contains-push, Contains-push_cases, all_pairs_push, take_more}
use Rattle.epx_types.proofs.Common.{length_push, Contains-get_or, length-take-le, get_or-take}
use Rattle.epx_types.proofs.Common.{get_or_default, get_or-set_same, get_or-set_other}
use Rattle.epx_graph.proofs.Common.{DependencyGraph}
use Rattle.epx_blockers.specs.inner.NodeCounts.{IsNodeCount, AreMissingCounts, IsOneMoreIf}

pub IsNodeCount-none : (P : ℕ → Type 0) → IsNodeCount P 0 0
IsNodeCount-none P = record {
  nodes = [];
  rising = λ i j d l k. absurd (omega arith);
  exact = λ k. (λ h. absurd (Contains-nil k h), λ (l, p). absurd (omega (arith, l)));
  counted = refl;
  few = omega arith;
}

module _ (P : ℕ → Type 0) (n count : ℕ) (is : IsNodeCount P n count) where
  -- the next node has the property
  pub IsNodeCount-more : P n → IsNodeCount P (n + 1) (count + 1)
  IsNodeCount-more here = record {
    nodes = is.nodes ++ n ∷ [];
    rising = all_pairs_push (λ i j. i < j) is.nodes n is.rising
        (λ i d l. ((is.exact (get_or is.nodes i d)).0 (Contains-get_or is.nodes i d l)).0);
    exact = λ k. (
      λ h. elim (Contains-push_cases is.nodes n k h) [
        | inl old ↦ let was = (is.exact k).0 old in (omega (arith, was.0), was.1)
        | inr last ↦ (omega (arith, last), subst P last here)
      ],
      λ (l, p). elim (cases_lt k n) [
        | inl before ↦ Contains-append_left is.nodes (n ∷ []) k ((is.exact k).1 (before, p))
        | inr not_before ↦
            let same : n ≡ k = omega (arith, l, not_before) in
            subst (Contains (is.nodes ++ n ∷ [])) same (Contains-push is.nodes n)
      ],
    );
    counted = length_push is.nodes n ∙ ap (λ c. c + 1) is.counted;
    few = omega (arith, is.few);
  }

  -- the next node does not have it
  pub IsNodeCount-skip : ¬ P n → IsNodeCount P (n + 1) count
  IsNodeCount-skip not_here = record {
    nodes = is.nodes;
    rising = is.rising;
    exact = λ k. (
      λ h. let was = (is.exact k).0 h in (omega (arith, was.0), was.1),
      λ (l, p). elim (cases_lt k n) [
        | inl before ↦ (is.exact k).1 (before, p)
        | inr not_before ↦
            let same : k ≡ n = omega (arith, l, not_before) in
            absurd (not_here (subst P same p))
      ],
    );
    counted = is.counted;
    few = omega (arith, is.few);
  }

  pub IsNodeCount-step : (new : ℕ) → IsOneMoreIf (P n) count new → IsNodeCount P (n + 1) new
  IsNodeCount-step new change =
      elim change [
        | inl (here, more) ↦ subst (IsNodeCount P (n + 1)) (sym more) (IsNodeCount-more here)
        | inr (not_here, same) ↦ subst (IsNodeCount P (n + 1)) (sym same)
            (IsNodeCount-skip not_here)
      ]

-- ---- a count for each missing node

module _ (g : DependencyGraph) (P : ℕ → ℕ → Type 0) where
  pub AreMissingCounts-none : (counts : List ℕ) → g.committed + length counts ≡ length g.ids
      → ((i : ℕ) → i < length counts → get_or counts i 0 ≡ 0) → AreMissingCounts g P 0 counts
  AreMissingCounts-none counts all zeros = record {
    all = all;
    each = λ i l. subst (IsNodeCount (λ k. P k (g.committed + i)) 0) (sym (zeros i l))
        (IsNodeCount-none (λ k. P k (g.committed + i)));
  }

  pub AreMissingCounts-step : (n : ℕ) (old new : List ℕ) → length new ≡ length old
      → ((i : ℕ) → i < length old
      → IsOneMoreIf (P n (g.committed + i)) (get_or old i 0) (get_or new i 0))
      → AreMissingCounts g P n old → AreMissingCounts g P (n + 1) new
  AreMissingCounts-step n old new same change are = record {
    all = ap (λ l. g.committed + l) same ∙ are.all;
    each = λ i l.
        let low : i < length old = omega (arith, l, same) in
        IsNodeCount-step (λ k. P k (g.committed + i)) n (get_or old i 0) (are.each i low)
        (get_or new i 0) (change i low);
  }

-- ---- a number that has grown

-- the number at index i after the one at a target's index has grown
pub get_or-set_target : (named : List ℕ) (committed target i : ℕ) → committed ≤ target
    → target - committed < length named → (read : ℕ) → read ≡ get_or named (target - committed) 0
    → ((target ≡ committed + i)
    × (get_or (set named (target - committed) (read + 1)) i 0 ≡ get_or named i 0 + 1))
    ⊎ ((target ≢ committed + i)
    × (get_or (set named (target - committed) (read + 1)) i 0 ≡ get_or named i 0))
get_or-set_target named committed target i past within read is =
    elim (cases_eq i (target - committed)) [
      | inl same ↦ inl (
        omega (arith, same, past),
        ap (λ j. get_or (set named (target - committed) (read + 1)) j 0) same
            ∙ get_or-set_same named (target - committed) (read + 1) 0 within
            ∙ ap (λ n. n + 1) (is ∙ ap (λ j. get_or named j 0) (sym same)),
      )
      | inr differs ↦ inr (
        λ same. differs (omega (arith, same, past)),
        get_or-set_other named (target - committed) i (read + 1) 0 differs,
      )
    ]

-- ---- one more target

-- whether j is a target, and its number, after one more target
pub IsOneMoreIf-step : (targets : List ℕ) (e : ℕ) (j first old new : ℕ) → e < length targets
    → AllPairs (λ i j. i < j) targets
    → IsOneMoreIf (Contains (take e targets) j) first old
    → ((get_or targets e 0 ≡ j) × (new ≡ old + 1)) ⊎ ((get_or targets e 0 ≢ j) × (new ≡ old))
    → IsOneMoreIf (Contains (take (e + 1) targets) j) first new
IsOneMoreIf-step targets e j first old new l rising before change =
    let before_now = take e targets in
    let last = get_or targets e 0 in
    let more = take_more targets e 0 l in
    let Contains-now : Contains (before_now ++ last ∷ []) j → Contains (take (e + 1) targets) j =
    subst (λ (ts : List ℕ). Contains ts j) (sym more) in
    elim change [
      | inl (here, one) ↦ elim before [
        | inl (there, was) ↦ absurd (earlier here there)
        | inr (none, was) ↦ inl (
          Contains-now (subst (Contains (before_now ++ last ∷ [])) here
              (Contains-push before_now last)),
          omega (arith, one, was),
        )
      ]
      | inr (other, same) ↦ elim before [
        | inl (there, was) ↦ inl (
          Contains-now (Contains-append_left before_now (last ∷ []) j there),
          omega (arith, same, was),
        )
        | inr (none, was) ↦ inr (
          λ h. elim (Contains-push_cases before_now last j
              (subst (λ (ts : List ℕ). Contains ts j) more h)) [
                | inl old ↦ none old
                | inr here ↦ other here
              ],
          omega (arith, same, was),
        )
      ]
    ]
  where
    earlier : get_or targets e 0 ≡ j → Contains (take e targets) j → ⊥
    earlier here (i, within, at) =
        let low : i < e = omega (arith, within, length-take-le e targets (omega (arith, l))) in
        let same : get_or targets i 0 ≡ j =
        get_or_default targets i 0 j (omega (arith, low, l))
        ∙ sym (get_or-take e targets i j low) ∙ at in
        absurd (omega (arith, rising i e 0 low l, same, here))
