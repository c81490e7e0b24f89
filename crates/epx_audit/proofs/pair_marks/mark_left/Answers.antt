use Rattle.std.proofs.Common.{◌≡◌, ◌<◌, All, length, length-set, refl, sym, subst, ap, ◌∙◌}
use Rattle.std.proofs.Common.{get_or, arith}
use Rattle.epx_types.proofs.Common.{Contains-get_or, slice_get-get_or}
use Rattle.epx_graph.proofs.Common.{edges_of}
use Rattle.epx_components.specs.between.Partitions.{parts}
use Rattle.epx_audit.specs.inner.Batches.{AreReachedBy}
use Rattle.epx_audit.specs.inner.PairMarks.{left_at}
use Rattle.epx_audit.proofs.PairMarkLemmas.{AreExactFrom-first, AreExactFrom-next}
use Rattle.epx_audit.proofs.PairMarkLemmas.{AreExactMarks-from_last, IsPassFor}
use Rattle.epx_audit.proofs.PairMarkLemmas.{IsPassFor-same, reached-within, has_bit-exact}
use Rattle.epx_audit.proofs.pair_marks.mark_left.Goals as goal
use Rattle.epx_audit.proofs.pair_marks.mark_left.Goals.{in-Some}
use Rattle.epx_audit.proofs.pair_marks.mark_left.Goals.{in-None+in_ok-sources-in-None+in_ok-reached-in-None}

pub loop-index-init : goal.loop-index-init
loop-index-init c =
    let none : length c.new-sources.result.items ≡ 0 = ap length c.new-sources.ensures.items in
    record {
      len = refl;
      pass = record {
        few = omega (arith, none);
        words = λ some. absurd (omega (arith, some, none));
        bits = λ b k lb lk. absurd (omega (arith, lb, none));
      };
      exact = λ nodes pairs but. AreExactFrom-first (edges_of c.args.graph.now) nodes pairs
          c.args.left.now c.args.marks.now but;
    }

pub next_sources-requires : goal.next_sources-requires
next_sources-requires c = omega arith

pub find_reached-requires-clause-sources : goal.find_reached-requires-clause-sources
find_reached-requires-clause-sources c =
    subst (All (λ k. k < length c.args.graph.now.ids)) (sym c.deref-in-None.ensures.value)
    (c.in_ok-sources-in-None.ensures.in_range (length c.args.graph.now.ids)
    (λ o h. (c.requires.left o h).0))

pub index-requires : goal.index-requires
index-requires c =
    let o = left_at c.args.left.now c.loop-index.index in
    let within = c.requires.left o
    (Contains-get_or c.args.left.now c.loop-index.index _ c.loop-index-test.true) in
    omega (
      arith,
      within.1,
      c.in_ok-partition.ensures.each_node,
      c.in_ok-partition.partition.component.ok.0,
    )

pub index-requires-in-loop-index : goal.index-requires-in-loop-index
index-requires-in-loop-index c =
    let g = c.args.graph.now in
    let p = parts c.in_ok-partition.partition in
    let o = left_at c.args.left.now c.loop-index.index in
    let within = c.requires.left o
    (Contains-get_or c.args.left.now c.loop-index.index _ c.loop-index-test.true) in
    let sources = c.match-bit_of.sources.items in
    let reached = c.match-bit_of.reached.items in
    let bit = c.match-bit_of.bit in
    let pass : IsPassFor g p sources reached bit o.from = elim c.match-bit_of.branch [
      | in-Some w ↦ IsPassFor-same g p c.loop-index.sources.items c.loop-index.reached.items sources
          reached w.in-Some.bit bit o.from (ap (λ v. v.items) w.sources-is)
          (ap (λ v. v.items) w.reached-is) w.bit-is c.loop-index.invariant.pass
          (subst (λ xs. (w.in-Some.bit < length xs) × (get_or xs w.in-Some.bit 0 ≡ o.from))
          c.deref.ensures.value w.in-Some.ensures)
      | in-None+in_ok-sources-in-None+in_ok-reached-in-None w ↦
          let its = w.in_ok-sources-in-None.sources.items in
          let words = w.in_ok-reached-in-None.reached.items in
          IsPassFor-same g p its words sources reached 0 bit o.from (ap (λ v. v.items) w.sources-is)
          (ap (λ v. v.items) w.reached-is) w.bit-is (record {
            few = w.in_ok-sources-in-None.ensures.few;
            words = λ some. w.in_ok-reached-in-None.ensures.len;
            bits = subst (λ xs. AreReachedBy g p xs words) w.deref-in-None.ensures.value
                w.in_ok-reached-in-None.ensures.reached;
          }) w.in_ok-sources-in-None.ensures.first
    ] in
    let l = reached-within g p c.in_ok-partition.ensures sources reached bit o pass within.1
    c.index.result.now c.index.ensures in
    omega (arith, l, c.match-bit_of.reached.ok.0)

pub bounds-marks-pair : goal.bounds-marks-pair
bounds-marks-pair c =
    let o = left_at c.args.left.now c.loop-index.index in
    let within = c.requires.left o
    (Contains-get_or c.args.left.now c.loop-index.index _ c.loop-index-test.true) in
    omega (arith, within.2, c.loop-index.invariant.len)

pub loop-index-preserved : goal.loop-index-preserved
loop-index-preserved c =
    let g = c.args.graph.now in
    let p = parts c.in_ok-partition.partition in
    let left = c.args.left.now in
    let n = c.loop-index.index in
    let l : n < length left = c.loop-index-test.true in
    let o = left_at left n in
    let within = c.requires.left o (Contains-get_or left n _ l) in
    let sources = c.match-bit_of.sources.items in
    let reached = c.match-bit_of.reached.items in
    let bit = c.match-bit_of.bit in
    let pass : IsPassFor g p sources reached bit o.from = elim c.match-bit_of.branch [
      | in-Some w ↦ IsPassFor-same g p c.loop-index.sources.items c.loop-index.reached.items sources
          reached w.in-Some.bit bit o.from (ap (λ v. v.items) w.sources-is)
          (ap (λ v. v.items) w.reached-is) w.bit-is c.loop-index.invariant.pass
          (subst (λ xs. (w.in-Some.bit < length xs) × (get_or xs w.in-Some.bit 0 ≡ o.from))
          c.deref.ensures.value w.in-Some.ensures)
      | in-None+in_ok-sources-in-None+in_ok-reached-in-None w ↦
          let its = w.in_ok-sources-in-None.sources.items in
          let words = w.in_ok-reached-in-None.reached.items in
          IsPassFor-same g p its words sources reached 0 bit o.from (ap (λ v. v.items) w.sources-is)
          (ap (λ v. v.items) w.reached-is) w.bit-is (record {
            few = w.in_ok-sources-in-None.ensures.few;
            words = λ some. w.in_ok-reached-in-None.ensures.len;
            bits = subst (λ xs. AreReachedBy g p xs words) w.deref-in-None.ensures.value
                w.in_ok-reached-in-None.ensures.reached;
          }) w.in_ok-sources-in-None.ensures.first
    ] in
    record {
      len = length-set c.loop-index.marks o.index c.has_bit.result ∙ c.loop-index.invariant.len;
      pass = pass.pass;
      exact = λ nodes pairs but.
          let own = has_bit-exact g p c.in_ok-partition.ensures sources reached bit o pass within.1
          c.index.result.now c.index.ensures nodes pairs
          (but.each_left o (Contains-get_or left n _ l)) c.index-in-loop-index.result.now
          c.index-in-loop-index.ensures c.has_bit.result c.has_bit.ensures in
          AreExactFrom-next (edges_of g) nodes pairs left c.loop-index.marks n o c.has_bit.result
          (slice_get-get_or left n _ l) (omega (arith, within.2, c.loop-index.invariant.len)) own
          (c.loop-index.invariant.exact nodes pairs but);
    }

pub returns : goal.returns
returns c nodes pairs but =
    AreExactMarks-from_last (edges_of c.args.graph.now) nodes pairs c.args.left.now
    c.loop-index.marks
    c.loop-index.index (omega (arith, c.loop-index-test.false))
    (c.loop-index.invariant.exact nodes pairs but)
