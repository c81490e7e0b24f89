use Rattle.epx_compare.proofs.AlikeLogLemmas.{NothingFoundWhereLogsAreAlike-iff}
use Rattle.epx_compare.proofs.laws.nothing_found_where_logs_are_alike.Goals as goal

pub returns : goal.returns
returns c = NothingFoundWhereLogsAreAlike-iff
