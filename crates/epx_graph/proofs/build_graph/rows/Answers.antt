use Rattle.std.proofs.Common.{◌≡◌, [], arith}
use Rattle.epx_types.proofs.Common.{nat_tests, nil_from_length}
use Rattle.epx_graph.specs.inner.Remainder.{rest_of}
use Rattle.epx_graph.proofs.GatherRowLemmas.{AreRowsOf-if_none_missing}
use Rattle.epx_graph.proofs.build_graph.rows.Goals as goal

pub returns-then-is_empty : goal.returns-then-is_empty
returns-then-is_empty c =
    let none : c.args.gathered.missing.items ≡ [] =
    nil_from_length c.args.gathered.missing.items
    (grind (
      arith,
      nat_tests,
      c.is_empty.ensures,
      c.if-is_empty.true,
      c.args.gathered.missing.ok.0,
    )) in
    AreRowsOf-if_none_missing (rest_of c.args.left.now) c.args.ids.now c.args.gathered.rows
    c.args.gathered.missing.items c.requires.nodes c.requires.gathered none
