use Rattle.std.proofs.Common.{◌≡◌, Contains, Some, inl, inr, map, slice_get, sym, subst, ap, ◌∙◌}
use Rattle.std.proofs.Common.{arith}
use Rattle.epx_types.proofs.Common.{cases_lt, false≢true, length-map, slice_get-get_or}
use Rattle.epx_types.proofs.Common.{slice_get_within, slice_get-from_Contains}
use Rattle.epx_types.proofs.lists.ListPositionLemmas.{slice_get-map}
use Rattle.epx_audit.proofs.conflicts.have_common_key.Goals as goal

pub loop-key-preserved : goal.loop-key-preserved
loop-key-preserved c i k l found there =
    let keys = c.args.keys.now in
    let n = c.loop-key.key-index in
    let at = slice_get-map (λ k. k.now) keys n c.key-item.result
    (slice_get-get_or keys n c.key-item.result c.loop-key-test.true
    ∙ ap Some (sym c.key-item.is)) in
    elim (cases_lt i n) [
      | inl past ↦ c.loop-key.invariant i k past found there
      | inr now ↦
          let same : i ≡ n = omega arith in
          let one : Some k ≡ Some c.key-item.result.now =
          sym found ∙ ap (slice_get (map (λ k. k.now) keys)) same ∙ at in
          let is_key : k ≡ c.key-item.result.now = cc one in
          absurd (false≢true (sym c.if-has_key.false ∙ c.has_key.ensures.1
          (subst (Contains (map (λ k. k.now) c.args.others.now)) is_key there)))
    ]

pub returns : goal.returns
returns c =
    let keys = map (λ k. k.now) c.args.keys.now in (
      (λ h. absurd (false≢true h)),
      λ h.
          let i = slice_get-from_Contains keys h.0 h.1 in
          let l = slice_get_within keys i.0 h.0 i.1 in
          absurd (c.loop-key.invariant i.0 h.0
          (omega (arith, l, c.loop-key-test.false, length-map c.args.keys.now (λ k. k.now)))
          i.1 h.2),
    )
