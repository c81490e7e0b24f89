use Rattle.std.proofs.Common.{◌≡◌, ◌∙◌, ◌+◌, ◌<◌, ℕ, List, Vec, length, get_or, set, ap, refl}
use Rattle.std.proofs.Common.{arith}
use Rattle.epx_types.proofs.Common.{length-set, get_or_default, Global}
use Rattle.epx_versions.specs.declared.noted.NotedLine.{NotedLine}
use Rattle.epx_compare.proofs.LogCountLemmas.{get_or-count_small, get_or-count_more}
use Rattle.epx_compare.proofs.LogCountLemmas.{get_or-count_same}
use Rattle.epx_compare.proofs.counts.count_rows.Goals as goal
use Rattle.epx_compare.proofs.counts.count_rows.Goals.{then-log-logs, else-log-logs}

abbrev nothing : NotedLine
nothing = record { place = record { log = 0; line = 0 }; version = 0 }

pub overflow_add-index_mut : goal.overflow_add-index_mut
overflow_add-index_mut c =
    let i = c.loop-row.row-index in
    let log = (get_or c.args.rows.now i nothing).place.log in
    let small = get_or-count_small (λ (r : NotedLine). r.place.log) c.args.rows.now i nothing
    c.loop-row-test.true c.loop-row.counts.items c.args.logs c.loop-row.invariant.each log
    c.if-log-logs.true in
    let room : log < length c.loop-row.counts.items =
    omega (arith, c.if-log-logs.true, c.loop-row.invariant.len) in
    let value = c.index_mut.ensures.value
    ∙ get_or_default c.loop-row.counts.items log c.index_mut.result.now 0 room in
    omega (arith, small, value)

pub loop-row-preserved : goal.loop-row-preserved
loop-row-preserved c =
    let i = c.loop-row.row-index in
    let log = (get_or c.args.rows.now i nothing).place.log in
    let old = c.loop-row.counts.items in
    let items : Vec ℕ Global → List ℕ = λ v. v.items in
    elim c.if-log-logs.branch [
      | then-log-logs w ↦
          let room : log < length old =
          omega (arith, w.if-log-logs.true, c.loop-row.invariant.len) in
          let one : w.index_mut.result.now + 1 ≡ get_or old log 0 + 1 =
          ap (λ n. n + 1) (w.index_mut.ensures.value
          ∙ get_or_default old log w.index_mut.result.now 0 room) in
          let is = ap items w.counts-is ∙ ap (set old log) one in
          record {
            len = ap length is ∙ (length-set old log (get_or old log 0 + 1)
                ∙ c.loop-row.invariant.len);
            each = λ l inside. ap (λ ns. get_or ns l 0) is
                ∙ get_or-count_more (λ (r : NotedLine). r.place.log) c.args.rows.now i nothing
                c.loop-row-test.true old c.args.logs c.loop-row.invariant.each log refl
                room l inside;
          }
      | else-log-logs w ↦ record {
        len = ap (λ v. length (items v)) w.counts-is ∙ c.loop-row.invariant.len;
        each = λ l inside. ap (λ v. get_or (items v) l 0) w.counts-is
            ∙ get_or-count_same (λ (r : NotedLine). r.place.log) c.args.rows.now i nothing
            c.loop-row-test.true old c.args.logs c.loop-row.invariant.each
            w.if-log-logs.false l inside;
      }
    ]
