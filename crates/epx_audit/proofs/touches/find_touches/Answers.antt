use Rattle.std.proofs.Common.{◌≡◌, ◌++◌, inl, inr, get_or, Contains, slice_get, Some, sym, subst}
use Rattle.std.proofs.Common.{ap, ◌∙◌, arith}
use Rattle.epx_types.proofs.Common.{cases_lt, Contains-append_left, Contains-append_right}
use Rattle.epx_types.proofs.Common.{Contains-append_cases, Contains-permutation, IsPermutation-sym}
use Rattle.epx_types.proofs.Common.{Instance}
use Rattle.epx_audit.specs.inner.Touches.{hashed_touches}
use Rattle.epx_audit.proofs.TouchLemmas.{hashed_touches-position}
use Rattle.epx_audit.proofs.touches.find_touches.Goals as goal

pub loop-position-preserved : goal.loop-position-preserved
loop-position-preserved c =
    let n = c.loop-position.position in
    let start = c.args.start in
    let old = c.loop-position.touches.items in
    let ops = c.ops.result.now in
    let more = hashed_touches start n ops in
    let new : c.add_command.new.touches.items ≡ old ++ more = c.in_ok-add_command.ensures in
    record {
      placed = λ t h. elim (Contains-append_cases old more t (subst (λ ts. Contains ts t) new h)) [
        | inl was ↦ let below = c.loop-position.invariant.placed t was in omega arith
        | inr now ↦ let at = hashed_touches-position start n ops t now in omega (arith, at)
      ];
      whole = λ p e t l at h. subst (λ ts. Contains ts t) (sym new) (elim (cases_lt p n) [
        | inl past ↦ Contains-append_left old more t
            (c.loop-position.invariant.whole p e t past at h)
        | inr here ↦
            let same : p ≡ n = omega arith in
            let m = c.args.merged.now in
            let read : Some c.entry_at.result.now ≡ Some e =
            sym c.entry_at.ensures
            ∙ (ap (λ i. slice_get m (get_or c.args.nodes.now i 0)) (sym same) ∙ at) in
            let one : c.entry_at.result.now ≡ e = cc read in
            let its : ops ≡ e.ops = c.ops.ensures.ops ∙ ap (λ (e : Instance). e.ops) one in
            Contains-append_right old more t
            (subst (λ x. Contains (hashed_touches start n x) t) (sym its)
            (subst (λ i. Contains (hashed_touches start i e.ops) t) same h))
      ]);
    }

pub returns-clause-placed : goal.returns-clause-placed
returns-clause-placed c t h =
    let back = Contains-permutation _ _ t (IsPermutation-sym _ _ c.sort.ensures.permutation) h in
    let below = c.loop-position.invariant.placed t back in
    omega (arith, below, c.loop-position-test.false, c.loop-position.auto.position-end)

pub returns-clause-whole : goal.returns-clause-whole
returns-clause-whole c p e t l at h =
    Contains-permutation _ _ t c.sort.ensures.permutation
    (c.loop-position.invariant.whole p e t (omega (arith, l, c.loop-position-test.false)) at h)
