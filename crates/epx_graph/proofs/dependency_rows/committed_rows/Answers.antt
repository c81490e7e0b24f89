use Rattle.std.proofs.Common.{ℕ, List, flat_map, sym, subst, rules, arith}
use Rattle.epx_types.proofs.Common.{IfOk-weaker}
use Rattle.epx_graph.specs.declared.dependency_rows.Gathered.{Gathered}
use Rattle.epx_graph.specs.inner.Remainder.{rest_of}
use Rattle.epx_graph.specs.inner.Nodes.{IsGatheredOf, instances_of_piece}
use Rattle.epx_graph.proofs.GatherPieceLemmas.{IsGatheredOf-all, IfOk-both}
use Rattle.epx_graph.proofs.dependency_rows.committed_rows.Goals as goal

pub returns : goal.returns
returns g c =
    let m = rest_of c.args.left.now in
    let pieces = c.new-pieces.result in
    let answers = c.in_ok-gathered.ensures.ok in
    let rows_in = λ (piece : Gathered). piece.rows in
    let ids_in = λ (piece : Gathered). piece.missing.items in
    let found = c.in_ok-gathered.gathered.items in
    let all = IsGatheredOf-all rows_in ids_in m pieces.size found pieces.count
    (omega (arith, c.len.ensures.len, c.new-pieces.ensures.all)) (record {
      len = answers.len;
      each = λ i inside.
          let a = answers.each i inside in
          let answer = a.2 in
          let is : IsGatheredOf m (instances_of_piece pieces.size m i) a.0.rows
          a.0.missing.items = search rules in
          (a.0, a.1, is);
    }) in
    let joined = c.join_pieces.ensures in
    IfOk-weaker c.join_pieces.result _ _ (λ gathered both. record {
      all = subst (λ ids. IsGatheredOf m m gathered.rows ids) (sym both.1)
          (subst (λ (rows : List (List ℕ)). IsGatheredOf m m rows (flat_map ids_in found))
          (sym both.0) all);
      instances_rise = c.len.ensures.rising;
    }) (IfOk-both c.join_pieces.result _ _ joined.rows joined.missing)
