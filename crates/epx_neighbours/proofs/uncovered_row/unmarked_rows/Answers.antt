use Rattle.std.proofs.Common.{◌≡◌, ◌+◌, ◌<◌, ℕ, length, get_or, sym, subst, ap, refl, ◌∙◌, arith}
use Rattle.epx_types.proofs.Common.{slice_get-get_or, All-get_or}
use Rattle.epx_neighbours.specs.declared.neighbours.Neighbours.{Neighbours}
use Rattle.epx_neighbours.specs.declared.uncovered_row.UncoveredRow.{UncoveredRow}
use Rattle.epx_neighbours.proofs.RowLemmas.{AreUnmarkedUpTo, AreUnmarkedUpTo-push}
use Rattle.epx_neighbours.proofs.RowLemmas.{AreUnmarkedUpTo-skip}
use Rattle.epx_neighbours.proofs.uncovered_row.unmarked_rows.Goals as goal
use Rattle.epx_neighbours.proofs.uncovered_row.unmarked_rows.Goals.{then-not-marks-index+in_ok-push}
use Rattle.epx_neighbours.proofs.uncovered_row.unmarked_rows.Goals.{else-not-marks-index}

pub loop-index-preserved : goal.loop-index-preserved
loop-index-preserved c =
    let ids = c.args.ids.now in
    let found = c.args.found.now in
    let marks = c.args.marks.now in
    let n = c.loop-index.index in
    let old = c.loop-index.rows.items in
    let none : Neighbours = record { before = 0; after = 0; key = 0 } in
    let x = get_or found n none in
    let r : UncoveredRow = record {
      before = get_or ids x.before (record { replica = 0; number = 0 });
      after = get_or ids x.after (record { replica = 0; number = 0 });
      key = x.key;
    } in
    elim c.if-not-marks-index.branch [
      | then-not-marks-index+in_ok-push w ↦
          let within : (x.before < length ids) × (x.after < length ids) =
          All-get_or (λ (y : Neighbours). (y.before < length ids) × (y.after < length ids)) found n
          none c.loop-index-test.true c.requires.within in
          subst (AreUnmarkedUpTo ids found marks (n + 1))
          (sym (ap (λ v. v.items) w.rows-is ∙ w.in_ok-push.ensures.items))
          (AreUnmarkedUpTo-push ids found marks n x r old
          (slice_get-get_or found n none c.loop-index-test.true) w.if-not-marks-index.true
          (record {
            before = slice_get-get_or ids x.before _ within.0;
            after = slice_get-get_or ids x.after _ within.1;
            key = refl;
          }) c.loop-index.invariant)
      | else-not-marks-index w ↦
          subst (AreUnmarkedUpTo ids found marks (n + 1)) (sym (ap (λ v. v.items) w.rows-is))
          (AreUnmarkedUpTo-skip ids found marks n old w.if-not-marks-index.false
          c.loop-index.invariant)
    ]

pub returns : goal.returns
returns c =
    let all : c.loop-index.index ≡ length c.args.found.now =
    omega (arith, c.loop-index-test.false, c.loop-index.auto.index-end) in
    subst (λ (n : ℕ). AreUnmarkedUpTo c.args.ids.now c.args.found.now c.args.marks.now n
    c.loop-index.rows.items) all c.loop-index.invariant
