use Rattle.std.proofs.Common.{rules}
use Rattle.epx_replay.proofs.PairRangeLemmas.{zip-items_of_piece}
use Rattle.epx_replay.proofs.reply_parts.lines_of_piece.Goals as goal

pub returns : goal.returns
returns c =
    search (
      rules,
      zip-items_of_piece c.args.plan.cut c.args.piece c.args.ids.now c.args.replies.now
          c.requires.same,
    )
