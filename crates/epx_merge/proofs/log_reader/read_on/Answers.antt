use Rattle.std.proofs.Common.{◌≡◌, ◌<◌, ◌∙◌, IfOk, [], MatchResult, ap, sym, subst, rules}
use Rattle.epx_types.proofs.Common.{IfOk-weaker, piece_count}
use Rattle.epx_merge.specs.between.LinePieces.{ArePiecesOf, lines_of_piece}
use Rattle.epx_merge.specs.between.ReadFaults.{IsReadFault, refused_among}
use Rattle.epx_merge.proofs.LinePieceLemmas.{ArePiecesOf-in_order}
use Rattle.epx_merge.proofs.log_reader.read_on.Goals as goal

pub returns-clause-lines : goal.returns-clause-lines
returns-clause-lines g c = λ lines cut read drops.
    let N = g.N.Notes in
    let did = c.claimed_map_after-given in
    let cache = c.args.before.cache in
    let batch = c.args.batch.now in
    let is = N.is_read c.shared-shared.result cache in
    let count = c.pieces-pieces.ensures.pieces in
    let many = count ∙ ap (piece_count c.args.plan.cut) c.len.ensures in
    let in_order = IfOk-weaker did.result.1 _ _ (λ v h.
    ArePiecesOf-in_order is c.args.plan.cut
    c.pieces-pieces.ensures.fits.some_item batch v.items (record {
      len = h.len ∙ many;
      each = λ i inside.
          let a = h.each i (subst (λ n. i < n) (sym many) inside) in
          let answer = a.2 in
          let here : is (lines_of_piece c.args.plan.cut i batch) a.0 = search rules in
          (a.0, a.1, here);
    })) did.ensures.ok in
    let noted = subst (λ n. MatchResult did.result.0.0 (λ _. N.has_read lines n cache [])
    (IsReadFault (refused_among N.refuses_bad_lines lines))) (search rules)
    (did.ensures.first.met.1.0 lines cache read) in
    let kept = subst (λ n. N.shared_of n ≡ N.shared_of c.args.before.notes) (search rules)
    did.ensures.first.met.1.1.0 in
    let same = c.shared-shared.ensures ∙ sym kept in
    c.after_batch.ensures lines cut drops noted
    (subst (λ s. IfOk did.result.1 (λ v. ArePiecesOf (N.is_read s cache) batch v.items)) same
    in_order)
