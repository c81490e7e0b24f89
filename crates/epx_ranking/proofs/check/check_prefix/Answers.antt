use Rattle.std.proofs.Common.{rules}
use Rattle.epx_ranking.proofs.ListedNodeLemmas.{IsPrefixFault-from_listing}
use Rattle.epx_ranking.proofs.check.check_prefix.Goals as goal

pub returns-in_err-node_list : goal.returns-in_err-node_list
returns-in_err-node_list c =
    let m = c.args.merged.now in
    let fault = IsPrefixFault-from_listing m c.args.ids.now c.in_err-node_list.field-0.0
    (c.in_err-node_list.ensures.sound m c.requires) in
    search rules
