use Rattle.std.proofs.Common.{◌≡◌, ◌<◌, ◌+◌, ◌++◌, ◌∷◌, [], ℕ, List, Option, Some, None, get_or}
use Rattle.std.proofs.Common.{length, take, append_assoc, sym, subst, ap, ◌∙◌, arith, Contains}
use Rattle.epx_types.proofs.Common.{Contains-get_or, get_or_read, take_more}
use Rattle.epx_audit.specs.inner.PathCovers.{IsCoverRow, greatest_on}
use Rattle.epx_audit.proofs.RowMergeLemmas.{AreNotedPaths-within, IsCoverRow-push}
use Rattle.epx_audit.proofs.path_cover.RowMerge.push_row.Goals as goal

none_some : (x : Option ℕ) (e : ℕ) → x ≡ None → x ≡ Some e → ⊥
none_some x e none some = cc

pub index-requires : goal.index-requires
index-requires c =
    let x = get_or c.deref-path-items.result.now c.loop-path.path-index 0 in
    let within : x < length c.args.self.now.greatest.items =
    AreNotedPaths-within c.args.self.now.greatest.items c.args.self.now.paths.items x
    c.requires.paths
    (subst (λ (ps : List ℕ). Contains ps x) c.deref-path-items.ensures.value
    (Contains-get_or c.deref-path-items.result.now c.loop-path.path-index 0
    c.loop-path-test.true)) in
    omega (arith, within, c.args.self.now.greatest.ok.0)

pub unreachable-requires : goal.unreachable-requires
unreachable-requires c =
    let greatest = c.args.self.now.greatest.items in
    let x = get_or c.deref-path-items.result.now c.loop-path.path-index 0 in
    let in' : Contains c.args.self.now.paths.items x =
    subst (λ (ps : List ℕ). Contains ps x) c.deref-path-items.ensures.value
    (Contains-get_or c.deref-path-items.result.now c.loop-path.path-index 0
    c.loop-path-test.true) in
    let noted = c.requires.paths.only x in' in
    let within = AreNotedPaths-within greatest c.args.self.now.paths.items x c.requires.paths in' in
    let read : c.index.result.now ≡ greatest_on greatest x =
    get_or_read greatest x c.index.result.now within c.index.ensures None in
    none_some (greatest_on greatest x) noted.0 (sym read ∙ c.in-None.is) noted.1

pub loop-path-preserved : goal.loop-path-preserved
loop-path-preserved c =
    let greatest = c.args.self.now.greatest.items in
    let paths = c.args.self.now.paths.items in
    let n = c.loop-path.path-index in
    let x = get_or c.deref-path-items.result.now c.loop-path.path-index 0 in
    let value = c.deref-path-items.ensures.value in
    let n_in : n < length c.args.self.now.paths.items =
    omega (arith, c.loop-path-test.true, ap length value) in
    let in' : Contains c.args.self.now.paths.items x =
    subst (λ (ps : List ℕ). Contains ps x) value
    (Contains-get_or c.deref-path-items.result.now n 0 c.loop-path-test.true) in
    let within = AreNotedPaths-within greatest paths x c.requires.paths in' in
    let read : c.index.result.now ≡ greatest_on greatest x =
    get_or_read greatest x c.index.result.now within c.index.ensures None in
    let more : take (n + 1) paths ≡ take n paths ++ x ∷ [] =
    take_more paths n 0 n_in ∙ ap (λ y. take n paths ++ y ∷ [])
    (ap (λ (ps : List ℕ). get_or ps n 0) (sym value)) in
    let old = c.loop-path.invariant in
    record {
      paths = c.in_ok-push.ensures.items ∙ (ap (λ (xs : List ℕ). xs ++ x ∷ []) old.paths
          ∙ (append_assoc c.args.row_paths.now.items (take n paths) (x ∷ [])
          ∙ ap (λ (ys : List ℕ). c.args.row_paths.now.items ++ ys) (sym more)));
      positions = (
        old.positions.0 ++ c.in-Some.position ∷ [],
        subst (λ (ps : List ℕ). IsCoverRow greatest ps (old.positions.0 ++ c.in-Some.position ∷ []))
            (sym more)
            (IsCoverRow-push greatest (take n paths) old.positions.0 x c.in-Some.position
            old.positions.1
            (sym read ∙ c.in-Some.is)),
        c.in_ok-push-in-Some.ensures.items
            ∙ (ap (λ (xs : List ℕ). xs ++ c.in-Some.position ∷ []) old.positions.2
            ∙ append_assoc c.args.row_positions.now.items old.positions.0
            (c.in-Some.position ∷ [])),
      );
    }
