-- What is settled when some of the sources are settled.
use Rattle.std.proofs.Common.{◌≡◌, inl, inr, ℕ, ◌+◌, ◌-◌, ◌<◌, ◌≤◌, List, Bool, All, length}
use Rattle.std.proofs.Common.{length-take, length-drop, take, drop, get_or, IsTrue, sym, subst, ap}
use Rattle.std.proofs.Common.{◌∙◌, arith}
use Rattle.epx_types.proofs.Common.{cases_lt, get_or_default, get_or-take, get_or-drop}
use Rattle.epx_types.proofs.Common.{All-from_get_or, Instance}
use Rattle.epx_audit.specs.declared.doubtful_touches.DoubtfulTouch.{DoubtfulTouch}
use Rattle.epx_audit.specs.inner.DoubtfulKeys.{HoldAllConflicts, HoldUnsettled}
use Rattle.epx_audit.specs.inner.NodeConflicts.{IsSettled}
use Rattle.epx_components.specs.between.ReadyMarks.{is_marked}
use Rattle.epx_audit.specs.inner.Sources.{AreSources, AreSettled, IsFirstPair, IsLeastPair}

module _ (m : List Instance) (edges : ℕ → List ℕ) (ready : List Bool)
    (touches : List DoubtfulTouch) (unsettled : List Bool) (sources : List ℕ)
    (are : AreSources ready unsettled sources) (hold : HoldAllConflicts m edges ready touches)
    (settled : HoldUnsettled edges touches unsettled) where
  -- a node that is none of the later sources
  pub IsSettled-below : (n : ℕ) → AreSettled m edges ready sources n → (k j : ℕ)
      → ((i : ℕ) → i < length sources → get_or sources i 0 ≡ k → i < n) → k < j
      → IsSettled m edges ready k j
  IsSettled-below n done k j early above d e at to k_ready j_ready conflict =
      elim (hold k j d e above at to k_ready j_ready conflict) [
        | inl related ↦ related
        | inr share ↦ elim (settled k j share) [
          | inr related ↦ related
          | inl marked ↦
              let found = are.whole k marked k_ready in
              let is : get_or sources found.0 0 ≡ k =
              get_or_default sources found.0 0 _ found.1 ∙ found.2 in
              let here = done found.0 j (early found.0 found.1 is) (omega (arith, is, above)) in
              (subst (λ k. IsSettled m edges ready k j) is here) d e at to k_ready j_ready conflict
        ]
      ]

  -- a node below a source
  pub sources-before : (n : ℕ) → n < length sources → (k : ℕ) → k < get_or sources n 0 → (i : ℕ)
      → i < length sources → get_or sources i 0 ≡ k → i < n
  sources-before n l k below i li is = elim (cases_lt i n) [
    | inl early ↦ early
    | inr not ↦ elim (cases_lt n i) [
      | inl late ↦ absurd (omega (arith, are.rising n i late li, is, below))
      | inr neither ↦
          let same : i ≡ n = omega arith in
          absurd (omega (arith, subst (λ i. get_or sources i 0 ≡ k) same is, below))
    ]
  ]

-- the sources of a batch come after the first n sources
pub AreSettled-batch : (m : List Instance) (edges : ℕ → List ℕ) (ready : List Bool)
    (sources batch : List ℕ) (first n : ℕ)
    → ((i : ℕ) → i < length batch → get_or batch i 0 ≡ get_or sources (first + i) 0)
    → n ≤ length batch → AreSettled m edges ready sources first → AreSettled m edges ready batch n
    → AreSettled m edges ready sources (first + n)
AreSettled-batch m edges ready sources batch first n same within before now i j l above =
    elim (cases_lt i first) [
      | inl past ↦ before i j past above
      | inr here ↦
          let at : first + (i - first) ≡ i = omega arith in
          let is : get_or batch (i - first) 0 ≡ get_or sources i 0 =
          same (i - first) (omega arith) ∙ ap (λ i. get_or sources i 0) at in
          subst (λ k. IsSettled m edges ready k j) is
          (now (i - first) j (omega arith) (omega (arith, is, above)))
    ]

-- a sublist
module _ (xs : List ℕ) (first n : ℕ) where
  pub take-drop_within : (i : ℕ) → i < length (take n (drop first xs))
      → (i < n) × (first + i < length xs)
  take-drop_within i l = (
    omega (arith, l, length-take n (drop first xs)),
    omega (arith, l, length-take n (drop first xs), length-drop first xs),
  )

  pub get_or-take_drop : (i : ℕ) → i < length (take n (drop first xs))
      → get_or (take n (drop first xs)) i 0 ≡ get_or xs (first + i) 0
  get_or-take_drop i l = get_or-take n (drop first xs) i 0 (take-drop_within i l).0
      ∙ get_or-drop first xs i 0

module _ (ready unsettled : List Bool) (sources : List ℕ)
    (are : AreSources ready unsettled sources) (first n : ℕ) where
  pub All-part_ready : All (λ k. IsTrue (is_marked ready k)) (take n (drop first sources))
  All-part_ready = All-from_get_or (λ k. IsTrue (is_marked ready k)) (take n (drop first sources)) 0
      (λ i l. subst (λ k. IsTrue (is_marked ready k)) (sym (get_or-take_drop sources first n i l))
      (are.each (first + i) (take-drop_within sources first n i l).1).0)

  pub All-part_in_range : (nodes : ℕ) → length unsettled ≤ nodes
      → All (λ k. k < nodes) (take n (drop first sources))
  All-part_in_range nodes within =
      All-from_get_or (λ k. k < nodes) (take n (drop first sources)) 0 (λ i l.
      let e = (are.each (first + i) (take-drop_within sources first n i l).1).1 in
      omega (arith, get_or-take_drop sources first n i l, within, e))

module _ (m : List Instance) (edges : ℕ → List ℕ) (ready : List Bool)
    (touches : List DoubtfulTouch) (unsettled : List Bool) (sources : List ℕ)
    (are : AreSources ready unsettled sources) (hold : HoldAllConflicts m edges ready touches)
    (settled : HoldUnsettled edges touches unsettled) (first n : ℕ)
    (before : AreSettled m edges ready sources first) where
  pub IsLeastPair-from_first : (k j : ℕ)
      → IsFirstPair m edges ready (take n (drop first sources)) k j
      → IsLeastPair m edges ready k j
  IsLeastPair-from_first k j pair =
      let part = take n (drop first sources) in
      let l : pair.at < length part = pair.source.0 in
      let at = first + pair.at in
      let within : at < length sources = (take-drop_within sources first n pair.at l).1 in
      let is : get_or sources at 0 ≡ k = sym (get_or-take_drop sources first n pair.at l)
      ∙ pair.source.1 in
      let done : AreSettled m edges ready sources at =
      AreSettled-batch m edges ready sources part first pair.at (get_or-take_drop sources first n)
      (omega (arith, l)) before pair.before in
      record {
        before = λ i o below above. IsSettled-below m edges ready touches unsettled sources are hold
            settled at done i o (sources-before m edges ready touches unsettled sources are hold
            settled at within i (omega (arith, is, below))) above;
        partner = pair.partner;
      }
