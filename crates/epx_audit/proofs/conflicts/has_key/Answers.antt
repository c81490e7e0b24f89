use Rattle.std.proofs.Common.{◌≡◌, Some, inl, inr, map, slice_get, refl, sym, ap, ◌∙◌, arith}
use Rattle.epx_types.proofs.Common.{cases_lt, false≢true, length-map, slice_get-get_or}
use Rattle.epx_types.proofs.Common.{slice_get_within, key_cmp-cases, Contains-slice_get}
use Rattle.epx_types.proofs.Common.{slice_get-from_Contains}
use Rattle.epx_types.proofs.lists.ListPositionLemmas.{slice_get-map}
use Rattle.epx_audit.proofs.conflicts.has_key.Goals as goal

pub returns-then-eq : goal.returns-then-eq
returns-then-eq c =
    let keys = c.args.keys.now in
    let i = c.loop-other.other-index in
    let at = slice_get-map (λ k. k.now) keys i c.other-item.result
    (slice_get-get_or keys i c.other-item.result c.loop-other-test.true
    ∙ ap Some (sym c.other-item.is)) in
    elim (key_cmp-cases c.other-item.result.now c.args.key.now) [
      | inl same ↦ (
        (λ _. Contains-slice_get (map (λ k. k.now) keys) i c.args.key.now
            (at ∙ ap Some same.1)),
        λ _. refl,
      )
      | inr other ↦ absurd (false≢true (sym other.0 ∙ (sym c.eq.ensures ∙ c.if-eq.true)))
    ]

pub loop-other-preserved : goal.loop-other-preserved
loop-other-preserved c i l found =
    let keys = c.args.keys.now in
    let n = c.loop-other.other-index in
    let at = slice_get-map (λ k. k.now) keys n c.other-item.result
    (slice_get-get_or keys n c.other-item.result c.loop-other-test.true
    ∙ ap Some (sym c.other-item.is)) in
    elim (cases_lt i n) [
      | inl past ↦ c.loop-other.invariant i past found
      | inr now ↦
          let same : n ≡ i = omega arith in
          let one : Some c.other-item.result.now ≡ Some c.args.key.now =
          sym at ∙ ap (slice_get (map (λ k. k.now) keys)) same ∙ found in
          elim (key_cmp-cases c.other-item.result.now c.args.key.now) [
            | inl same ↦ absurd (false≢true (sym c.if-eq.false ∙ (c.eq.ensures ∙ same.0)))
            | inr other ↦ absurd (other.1 (cc one))
          ]
    ]

pub returns : goal.returns
returns c =
    let keys = map (λ k. k.now) c.args.keys.now in (
      (λ h. absurd (false≢true h)),
      λ h.
          let i = slice_get-from_Contains keys c.args.key.now h in
          let l = slice_get_within keys i.0 c.args.key.now i.1 in
          absurd (c.loop-other.invariant i.0
          (omega (arith, l, c.loop-other-test.false, length-map c.args.keys.now (λ k. k.now)))
          i.1),
    )
