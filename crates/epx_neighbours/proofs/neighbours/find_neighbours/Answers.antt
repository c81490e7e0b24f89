use Rattle.std.proofs.Common.{◌≡◌, ◌+◌, length, sym, subst, ◌∙◌, arith}
use Rattle.epx_types.proofs.Common.{false≢true}
use Rattle.epx_neighbours.proofs.NumberedPairLemmas.{AreNumbered-from_joins, Joins-from_numbered}
use Rattle.epx_neighbours.proofs.WalkLemmas.{IsLastWriter, IsStart, AreFoundUpTo-step}
use Rattle.epx_neighbours.proofs.WalkLemmas.{IsLastWriter-reader}
use Rattle.epx_neighbours.proofs.WalkLemmas.{IsLastWriter-writer, IsStart-new_key, IsStart-same_key}
use Rattle.epx_neighbours.proofs.WalkLemmas.{AreFoundUpTo-start, IsLastWriter-start, AreFoundUpTo}
use Rattle.epx_neighbours.proofs.neighbours.find_neighbours.Goals as goal
use Rattle.epx_neighbours.proofs.neighbours.find_neighbours.Goals.{then-touches-index}
use Rattle.epx_neighbours.proofs.neighbours.find_neighbours.Goals.{else-touches-index}
use Rattle.epx_neighbours.proofs.neighbours.find_neighbours.Goals.{then-touches-index-2}
use Rattle.epx_neighbours.proofs.neighbours.find_neighbours.Goals.{else-touches-index-2}

pub loop-index-init : goal.loop-index-init
loop-index-init c = record {
  last = IsLastWriter-start c.args.touches.now;
  exact = subst (AreFoundUpTo c.args.touches.now 0) (sym c.new-found.ensures.items)
      (AreFoundUpTo-start c.args.touches.now);
}

pub loop-index-preserved : goal.loop-index-preserved
loop-index-preserved c =
    let touches = c.args.touches.now in
    let n = c.loop-index.index in
    let first = c.if-touches-index.last_writer in
    let start : IsStart touches first n = elim c.if-touches-index.branch [
      | then-touches-index w ↦ subst (λ j. IsStart touches j n) (sym w.last_writer-is)
          (IsStart-new_key touches c.requires c.loop-index.last_writer n c.loop-index-test.true
          w.if-touches-index.true c.loop-index.invariant.last)
      | else-touches-index w ↦ subst (λ j. IsStart touches j n) (sym w.last_writer-is)
          (IsStart-same_key touches c.loop-index.last_writer n w.if-touches-index.false
          c.loop-index.invariant.last)
    ] in
    record {
      last = elim c.if-touches-index-2.branch [
        | then-touches-index-2 w ↦ subst (λ j. IsLastWriter touches j (n + 1))
            (sym w.last_writer-is) (IsLastWriter-writer touches n w.if-touches-index-2.true)
        | else-touches-index-2 w ↦ subst (λ j. IsLastWriter touches j (n + 1))
            (sym w.last_writer-is)
            (IsLastWriter-reader touches first n
            (λ h. false≢true (sym w.if-touches-index-2.false ∙ h)) start)
      ];
      exact = AreFoundUpTo-step touches first n c.loop-index.found.items
          c.add_neighbours.new.found.items start c.loop-index.invariant.exact
          c.in_ok-add_neighbours.ensures;
    }

pub returns : goal.returns
returns c x =
    let touches = c.args.touches.now in
    let all : c.loop-index.index ≡ length touches =
    omega (arith, c.loop-index-test.false, c.loop-index.auto.index-end) in (
      λ h.
          let j = (c.loop-index.invariant.exact x).0 h in
          AreNumbered-from_joins touches c.requires x j.0 j.1 (omega (arith, j.2, all)) j.3,
      λ n.
          let j = Joins-from_numbered touches c.requires x n in
          (c.loop-index.invariant.exact x).1 (j.0, j.1, omega (arith, j.2, all), j.3),
    )
