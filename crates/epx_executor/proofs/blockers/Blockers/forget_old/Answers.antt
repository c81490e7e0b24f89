use Rattle.std.proofs.Common.{sym, ◌∙◌, rules}
use Rattle.epx_types.proofs.Common.{eqb-true}
use Rattle.epx_executor.proofs.FilingMapLemmas.{AreListedUnder-emptied, AreListedUnder-kept}
use Rattle.epx_executor.proofs.blockers.Blockers.forget_old.Goals as goal

pub invariant_of-self-then-is_empty : goal.invariant_of-self-then-is_empty
invariant_of-self-then-is_empty c =
    let left = c.keep_filed.new.list in (
      c.self.invariant.0,
      c.self.invariant.1,
      AreListedUnder-emptied c.self.inside.parents c.self.inside.children
          (c.get_mut.follows.lender left) c.args.id c.in-Some.list.now left c.self.invariant.1
          c.in-Some.ensures.value c.self.invariant.2 c.keep_filed.ensures c.remove.new.self
          ((c.get_mut.follows.holds left).3 (search rules)) c.remove.ensures.updates
          (eqb-true left.len 0 (sym c.is_empty.ensures ∙ c.if-is_empty.true)),
    )

pub invariant_of-self-else-is_empty : goal.invariant_of-self-else-is_empty
invariant_of-self-else-is_empty c =
    let left = c.keep_filed.new.list in (
      c.self.invariant.0,
      c.self.invariant.1,
      AreListedUnder-kept c.self.inside.parents c.self.inside.children
          (c.get_mut.follows.lender left) c.args.id c.in-Some.list.now left c.self.invariant.1
          c.in-Some.ensures.value c.self.invariant.2 c.keep_filed.ensures
          ((c.get_mut.follows.holds left).3 (search rules)),
    )
