use Rattle.epx_apply.specs.inner.Effects.{replies_in, put_replies}
use Rattle.epx_apply.proofs.ReplyLemmas.{ArePutUpTo}
use Rattle.epx_apply.proofs.run.put_all_replies.Given as goal

abbrev pub invariant-loop-position : goal.invariant-loop-position
invariant-loop-position l =
    ArePutUpTo l.position-iterator.a.rest.now l.position-iterator.b.rest.items l.replies.items
    (put_replies l.fn.positions (replies_in l.fn.effects.items) l.fn.replies.items)
