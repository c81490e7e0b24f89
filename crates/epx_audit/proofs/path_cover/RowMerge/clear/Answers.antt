use Rattle.std.proofs.Common.{◌≡◌, ◌≤◌, ◌<◌, ◌+◌, ℕ, Some, None, set, get_or, length, length-set}
use Rattle.std.proofs.Common.{sym, ap, subst, ◌∙◌, arith}
use Rattle.epx_types.proofs.Common.{Contains-get_or, get_or_read}
use Rattle.epx_audit.specs.inner.PathCovers.{greatest_on}
use Rattle.epx_audit.proofs.RowMergeLemmas.{greatest_on-clear, AreNotedPaths-within}
use Rattle.epx_audit.proofs.path_cover.RowMerge.clear.Goals as goal

pub index_mut-requires : goal.index_mut-requires
index_mut-requires c =
    let paths = c.args.self.now.paths.items in
    let i = c.loop-index.index in
    let same : c.loop-index.self.paths.items ≡ paths = c.loop-index.invariant.same in
    let len : length c.loop-index.self.greatest.items ≡ length c.args.self.now.greatest.items =
    c.loop-index.invariant.len in
    let in' : i < length c.args.self.now.paths.items =
    omega (arith, c.loop-index-test.true, c.len-index-end.ensures, c.args.self.now.paths.ok.0) in
    let path : c.index-path.result.now ≡ get_or c.loop-index.self.paths.items i 0 =
    get_or_read c.loop-index.self.paths.items i c.index-path.result.now
    (omega (arith, in', ap length same)) c.index-path.ensures 0 in
    let within = AreNotedPaths-within c.args.self.now.greatest.items paths (get_or paths i 0)
    c.requires.paths (Contains-get_or paths i 0 in') in
    omega (
      arith,
      path,
      ap (λ xs. get_or xs i 0) same,
      within,
      len,
      c.loop-index.self.greatest.ok.0,
    )

pub loop-index-preserved : goal.loop-index-preserved
loop-index-preserved c =
    let paths = c.args.self.now.paths.items in
    let greatest = c.loop-index.self.greatest.items in
    let i = c.loop-index.index in
    let same : c.loop-index.self.paths.items ≡ paths = c.loop-index.invariant.same in
    let len : length greatest ≡ length c.args.self.now.greatest.items =
    c.loop-index.invariant.len in
    let in' : i < length c.args.self.now.paths.items =
    omega (arith, c.loop-index-test.true, c.len-index-end.ensures, c.args.self.now.paths.ok.0) in
    let path : c.index-path.result.now ≡ get_or paths i 0 =
    get_or_read c.loop-index.self.paths.items i c.index-path.result.now
    (omega (arith, in', ap length same)) c.index-path.ensures 0
    ∙ ap (λ xs. get_or xs i 0) same in
    let within = AreNotedPaths-within c.args.self.now.greatest.items paths (get_or paths i 0)
    c.requires.paths (Contains-get_or paths i 0 in') in
    record {
      len = length-set greatest _ _ ∙ len;
      same = same;
      left = subst (λ p. (x e : ℕ) → greatest_on (set greatest p None) x ≡ Some e
          → (k : ℕ) × (i + 1 ≤ k) × (k < length paths) × (get_or paths k 0 ≡ x)) (sym path)
          (greatest_on-clear greatest paths i (omega (arith, within, len))
          c.loop-index.invariant.left);
    }
