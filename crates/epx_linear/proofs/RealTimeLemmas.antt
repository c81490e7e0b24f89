-- No call is late exactly if some rearrangement keeps real time.
use Rattle.std.proofs.Common.{◌≡◌, ◌⊎◌, inl, inr, ℕ, suc, ◌<◌, ◌≤◌, List, [], ◌∷◌, length, map}
use Rattle.std.proofs.Common.{get_or, Contains, Option, Some, None, slice_get, slice_index}
use Rattle.std.proofs.Common.{slice_index_or, refl, sym, ap, subst, ◌∙◌, arith}
use Rattle.std.proofs.lemmas.List.{get_or-map}
use Rattle.std.proofs.lemmas.Option.{slice_get-get_or}
use Rattle.epx_types.proofs.Common.{length-map, slice_get_within, cases_lt, get_or_past, Conflict}
use Rattle.epx_types.proofs.Common.{ConflictAt, Climbs, Before, IsRearrangement, by_level}
use Rattle.epx_types.proofs.Common.{by_level-distinct, Contains-by_level, Contains-from_by_level}
use Rattle.epx_types.proofs.Common.{level_count, level_count-above_each, Contains-nil}
use Rattle.epx_types.proofs.Common.{Contains-cons_cases}
use Rattle.epx_types.proofs.levels.LevelOrderLemmas.{Conflict-not_past_end}
use Rattle.epx_types.specs.declared.op.Op.{Op}
use Rattle.epx_linear.specs.declared.client_call.ClientCall.{ClientCall}
use Rattle.epx_linear.specs.ClientCalls.{HasCall}
use Rattle.epx_linear.specs.LateCalls.{ConflictsUpTo, NoneLate}
use Rattle.epx_linear.specs.RealTime.{KeepsRealTime, HasRealTimeOrder}
use Rattle.epx_linear.proofs.LatestLemmas.{ConflictsUpTo-refl, ConflictsUpTo-push, IsGreatest}
use Rattle.epx_linear.proofs.LatestLemmas.{HaveGreatest}
use Rattle.epx_linear.proofs.LatestLemmas.{HaveGreatest-exists}
use Rattle.epx_linear.proofs.PositionLemmas.{Before-trans, Before-irrefl, Before-by_level}

-- ---- from an order that keeps real time

module _ (commands : List (List Op)) (positions : List ℕ)
    (arranged : IsRearrangement commands positions) where
  -- a chain of conflicts keeps its order
  chain_before : (is : List ℕ) (i j : ℕ) → Climbs commands j is → Contains (j ∷ is) i
      → (i ≡ j) ⊎ Before positions i j
  chain_before [] i j climbs h =
      elim (Contains-cons_cases j [] i h) [
        | inl here ↦ inl (sym here)
        | inr later ↦ absurd (Contains-nil i later)
      ]
  chain_before (k ∷ is) i j climbs h =
      let last = arranged.keeps k j climbs.0 climbs.1 in
      elim (Contains-cons_cases j (k ∷ is) i h) [
        | inl here ↦ inl (sym here)
        | inr later ↦ elim (chain_before is i k climbs.2 later) [
          | inl same ↦ inr (subst (λ p. Before positions p j) (sym same) last)
          | inr before ↦ inr (Before-trans positions arranged.once i k j before last)
        ]
      ]

  pub NoneLate-if_kept : (calls : List (Option ClientCall)) → KeepsRealTime calls positions
      → NoneLate commands calls
  NoneLate-if_kept calls in_time j i (a, b, at_j, at_i, up, earlier) =
      let turned : Before positions j i = in_time j i a b at_j at_i earlier in
      elim (chain_before up.0 i j up.1 up.2) [
        | inl same ↦ Before-irrefl positions arranged.once j
            (subst (Before positions j) same turned)
        | inr before ↦ Before-irrefl positions arranged.once j
            (Before-trans positions arranged.once j i j turned before)
      ]

-- ---- to an order that keeps real time

-- one above the time at which a call was invoked, or 0 if there is no call
abbrev pub time_of : Option (Option ClientCall) → ℕ
time_of None = 0
time_of (Some None) = 0
time_of (Some (Some c)) = suc c.invoked

module _ (commands : List (List Op)) (calls : List (Option ClientCall))
    (whole : length calls ≡ length commands) (none : NoneLate commands calls) where
  abbrev own : ℕ → ℕ
  own i = time_of (slice_get calls i)

  module _ (done : List (List Op × ℕ)) (all : length done ≡ length commands)
      (have : HaveGreatest commands own done) where
    abbrev latest : List ℕ
    latest = map (λ d. d.1) done

    length_latest : length latest ≡ length commands
    length_latest = length-map done (λ (d : List Op × ℕ). d.1) ∙ all

    at : (j : ℕ) → j < length commands → IsGreatest commands own j (slice_index latest j)
    at j low =
        let d : List Op × ℕ = ([], 0) in
        let within : j < length done = omega (arith, low, all) in
        let e : List Op × ℕ = get_or done j d in
        subst (IsGreatest commands own j)
        (sym (get_or-map (λ (d : List Op × ℕ). d.1) done j d 0 within))
        (have j e.0 e.1 (slice_get-get_or done j d within)).1

    rises : (i j : ℕ) → i < j → j < length commands → ConflictAt commands i j
        → slice_index latest i ≤ slice_index latest j
    rises i j less low conflict =
        let from = (at i (omega (arith, less, low))).reached in
        let up = ConflictsUpTo-push commands from.0 i j from.1 less conflict in
        omega (arith, (at j low).above from.0 up, from.2)

    -- the latest invocation for a call that returned is no later than its return
    returns_late : (j t : ℕ) (a : ClientCall) → HasCall calls j a → a.returned ≡ Some t
        → j < length commands → slice_index latest j ≤ suc t
    returns_late j t a at_j returned low =
        let from = (at j low).reached in
        by (slice_get calls from.0) from.0 refl from.1 from.2
      where
        by : (o : Option (Option ClientCall)) (k : ℕ) → slice_get calls k ≡ o
            → ConflictsUpTo commands k j → own k ≡ slice_index latest j
            → slice_index latest j ≤ suc t
        by None k e up same = omega (arith, same, ap time_of e)
        by (Some None) k e up same = omega (arith, same, ap time_of e)
        by (Some (Some c)) k e up same =
            elim (cases_lt t c.invoked) [
              | inl less ↦ absurd (none j k (a, c, at_j, e, up, (t, returned, less)))
              | inr upto ↦
                  let time : own k ≡ suc c.invoked = ap time_of e in
                  omega (arith, same, time, upto)
            ]

    abbrev positions : List ℕ
    positions = by_level latest (level_count latest)

    before : (i j : ℕ) → i < length commands → j < length commands
        → (slice_index latest i < slice_index latest j)
        ⊎ ((slice_index latest i ≡ slice_index latest j) × (i < j)) → Before positions i j
    before i j in_i in_j either =
        let in_j' : j < length latest = omega (arith, in_j, length_latest) in
        Before-by_level latest (level_count latest) i j (omega (arith, in_i, length_latest)) in_j'
        (level_count-above_each latest j in_j') either

    keeps : (i j : ℕ) → i < j → ConflictAt commands i j → Before positions i j
    keeps i j less conflict =
        elim (cases_lt j (length commands)) [
          | inl low ↦
              let up = rises i j less low conflict in
              elim (cases_lt (slice_index latest i) (slice_index latest j)) [
                | inl lower ↦ before i j (omega (arith, less, low)) low (inl lower)
                | inr upto ↦ before i j (omega (arith, less, low)) low
                    (inr (omega (arith, up, upto), less))
              ]
          | inr past ↦ absurd
              (Conflict-not_past_end (slice_index_or commands i [])
              (subst (Conflict (slice_index_or commands i [])) (get_or_past commands j [] past)
              conflict))
        ]

    arranged : IsRearrangement commands positions
    arranged = record {
      once = by_level-distinct latest (level_count latest);
      only = λ i h. let from = Contains-from_by_level latest (level_count latest) i h in
          omega (arith, from.0, length_latest);
      whole = λ i low. let in_i : i < length latest = omega (arith, low, length_latest) in
          Contains-by_level latest (level_count latest) i in_i
          (level_count-above_each latest i in_i);
      keeps = keeps;
    }

    in_time : KeepsRealTime calls positions
    in_time j i a b at_j at_i (t, returned, less) =
        let low : j < length commands =
        omega (arith, whole, slice_get_within calls j (Some a) at_j) in
        let low' : i < length commands =
        omega (arith, whole, slice_get_within calls i (Some b) at_i) in
        let up = (at i low').above i (ConflictsUpTo-refl commands i) in
        let time : own i ≡ suc b.invoked = ap time_of at_i in
        before j i low low'
        (inl (omega (arith, returns_late j t a at_j returned low, up, time, less)))

    pub HasRealTimeOrder-by_level : HasRealTimeOrder commands calls
    HasRealTimeOrder-by_level = (positions, arranged, in_time)

pub HasRealTimeOrder-none_late : (commands : List (List Op)) (calls : List (Option ClientCall))
    → length calls ≡ length commands → NoneLate commands calls → HasRealTimeOrder commands calls
HasRealTimeOrder-none_late commands calls whole none =
    let found = HaveGreatest-exists commands (λ i. time_of (slice_get calls i)) (length commands) in
    HasRealTimeOrder-by_level commands calls whole none found.0 found.1 found.2
