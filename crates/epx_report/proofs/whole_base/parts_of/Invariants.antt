use Rattle.std.proofs.Common.{◌≡◌, flat_map}
use Rattle.epx_report.specs.inner.LinesByKind.{with_all}
use Rattle.epx_report.proofs.BegunBaseLemmas.{header_parts}
use Rattle.epx_report.proofs.whole_base.parts_of.Given as goal

abbrev pub invariant-loop-part : goal.invariant-loop-part
invariant-loop-part l =
    with_all (header_parts l.fn.counts) (flat_map (λ part. part.items) l.fn.lines.items)
    ≡ with_all l.parts (flat_map (λ part. part.items) l.part-iterator.rest.items)
