use Rattle.std.proofs.Common.{◌<◌, ℕ, List, get_or, length, subst, arith, Contains}
use Rattle.epx_types.proofs.Common.{Contains-get_or}
use Rattle.epx_audit.proofs.RowMergeLemmas.{AreNotedPaths-within}
use Rattle.epx_audit.proofs.path_cover.RowMerge.path_on.Goals as goal

pub offset_bounds-tails-candidate : goal.offset_bounds-tails-candidate
offset_bounds-tails-candidate c =
    let x = get_or c.deref-candidate-items.result.now c.loop-candidate.candidate-index 0 in
    let within : x < length c.args.self.now.greatest.items =
    AreNotedPaths-within c.args.self.now.greatest.items c.args.self.now.paths.items x
    c.requires.paths
    (subst (λ (ps : List ℕ). Contains ps x) c.deref-candidate-items.ensures.value
    (Contains-get_or c.deref-candidate-items.result.now c.loop-candidate.candidate-index 0
    c.loop-candidate-test.true)) in
    omega (arith, within, c.requires.len)

pub bounds-tails-candidate : goal.bounds-tails-candidate
bounds-tails-candidate c =
    let x = get_or c.deref-candidate-items.result.now c.loop-candidate.candidate-index 0 in
    let within : x < length c.args.self.now.greatest.items =
    AreNotedPaths-within c.args.self.now.greatest.items c.args.self.now.paths.items x
    c.requires.paths
    (subst (λ (ps : List ℕ). Contains ps x) c.deref-candidate-items.ensures.value
    (Contains-get_or c.deref-candidate-items.result.now c.loop-candidate.candidate-index 0
    c.loop-candidate-test.true)) in
    omega (arith, within, c.requires.len)

pub ends_at-requires : goal.ends_at-requires
ends_at-requires c =
    let x = get_or c.deref-candidate-items.result.now c.loop-candidate.candidate-index 0 in
    record {
      path = AreNotedPaths-within c.args.self.now.greatest.items c.args.self.now.paths.items x
          c.requires.paths
          (subst (λ (ps : List ℕ). Contains ps x) c.deref-candidate-items.ensures.value
          (Contains-get_or c.deref-candidate-items.result.now c.loop-candidate.candidate-index 0
          c.loop-candidate-test.true));
    }
