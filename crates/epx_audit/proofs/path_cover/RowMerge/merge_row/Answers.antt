use Rattle.std.proofs.Common.{◌≡◌, ◌<◌, ◌≤◌, get_or, length, subst₂, ap, arith}
use Rattle.epx_types.proofs.Common.{get_or_read}
use Rattle.epx_audit.specs.declared.path_cover.PathMember.{PathMember}
use Rattle.epx_audit.specs.inner.PathCovers.{AddsTo, member_at}
use Rattle.epx_audit.proofs.RowMergeLemmas.{AddsTo-entry}
use Rattle.epx_audit.proofs.path_cover.RowMerge.merge_row.Goals as goal

pub loop-entry-preserved : goal.loop-entry-preserved
loop-entry-preserved c =
    let old = c.args.self.now.greatest.items in
    let cover = c.args.cover.now in
    let n = c.loop-entry.entry in
    let none : PathMember = record { start = 0; path = 0; row_start = 0; row_end = 0 } in
    let in' : c.args.position < length c.args.cover.now.members.items =
    omega (arith, c.if-position-len.false, c.len.ensures, c.args.cover.now.members.ok.0) in
    let member : c.index-member.result.now
    ≡ member_at c.args.cover.now.members.items c.args.position =
    get_or_read cover.members.items c.args.position c.index-member.result.now in'
    c.index-member.ensures none in
    let rows = c.requires.covered.2.rows c.args.position in' in
    let from : (member_at cover.members.items c.args.position).row_start ≤ n =
    omega (
      arith,
      ap (λ (m : PathMember). m.row_start) member,
      c.loop-entry.auto.entry,
      rows.0,
      c.loop-entry-test.true,
      ap (λ (m : PathMember). m.row_end) member,
    ) in
    let below : n < length cover.row_paths.items =
    omega (arith, c.loop-entry-test.true, ap (λ (m : PathMember). m.row_end) member, rows.1) in
    let path : c.index.result.now ≡ get_or cover.row_paths.items n 0 =
    get_or_read cover.row_paths.items n c.index.result.now below c.index.ensures 0 in
    let position : c.index-in-loop-entry.result.now ≡ get_or cover.row_positions.items n 0 =
    get_or_read cover.row_positions.items n c.index-in-loop-entry.result.now
    (omega (arith, below, c.requires.covered.2.entries)) c.index-in-loop-entry.ensures 0 in
    record {
      adds = AddsTo-entry old c.loop-entry.self.greatest.items c.note.new.self.greatest.items
          cover.row_paths.items cover.row_positions.items
          (member_at cover.members.items c.args.position).row_start n from
          c.loop-entry.invariant.adds
          (subst₂ (λ a b. AddsTo c.loop-entry.self.greatest.items c.note.new.self.greatest.items
          (λ x e. (x ≡ a) × (e ≡ b))) path position c.in_ok-note.ensures.adds);
      paths = c.in_ok-note.ensures.paths;
    }
