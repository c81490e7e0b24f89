use Rattle.std.proofs.Common.{◌∷◌, ◌++◌, [], length, refl, ap, sym, ◌∙◌, arith}
use Rattle.epx_types.proofs.Common.{take_all, slice_get_read}
use Rattle.epx_committed.specs.LineRows.{instances_at}
use Rattle.epx_committed.proofs.MergedMapLemmas.{length-instances_at}
use Rattle.epx_committed.proofs.TakenEntryLemmas.{NamesItsLine-now, LaterLinesStay-step}
use Rattle.epx_committed.proofs.TakenEntryLemmas.{take-next_instance}
use Rattle.epx_committed.proofs.merged.Merged.into_entries.Goals as goal

pub take_entry-requires : goal.take_entry-requires
take_entry-requires c =
    let rows = c.self.inside.rows in
    let at = slice_get_read rows.items (length rows.items) c.loop-index.index c.index.result.now
    refl (omega (arith, c.loop-index-test.true, c.len-index-end.ensures, rows.ok.0))
    c.index.ensures in
    NamesItsLine-now c.self.inside.lists.items c.loop-index.lists.items c.loop-index.lists.items
    rows.items
    c.self.invariant.0 c.loop-index.index c.index.result.now at c.loop-index.invariant.1

pub loop-index-preserved : goal.loop-index-preserved
loop-index-preserved c =
    let old = c.self.inside.lists.items in
    let now = c.loop-index.lists.items in
    let new = c.take_entry.new.lists.items in
    let rows = c.self.inside.rows in
    let row = c.index.result.now in
    let k = c.loop-index.index in
    let stay = c.loop-index.invariant.1 in
    let at = slice_get_read rows.items (length rows.items) k row refl
    (omega (arith, c.loop-index-test.true, c.len-index-end.ensures, rows.ok.0)) c.index.ensures in
    let named = NamesItsLine-now old now new rows.items c.self.invariant.0 k row at stay in
    let taken = take-next_instance old now new rows.items c.self.invariant.0 k row at stay
    c.take_entry.result (c.take_entry.ensures.entry named.0 named.1.0) in (
      c.in_ok-push.ensures.items
          ∙ ap (λ l. l ++ c.take_entry.result ∷ []) c.loop-index.invariant.0 ∙ sym taken,
      LaterLinesStay-step old now new rows.items c.self.invariant.0 k row at stay
          c.take_entry.ensures.others,
    )

pub returns : goal.returns
returns c =
    let rows = c.self.inside.rows in
    let all = instances_at c.self.inside.lists.items rows.items in
    c.loop-index.invariant.0
    ∙ take_all c.loop-index.index all (omega (
      arith,
      c.loop-index-test.false,
      c.loop-index.auto.index-end,
      c.len-index-end.ensures,
      rows.ok.0,
      length-instances_at c.self.inside.lists.items rows.items c.self.invariant.0,
    ))
    ∙ c.self.view_is
