use Rattle.epx_follow.proofs.FollowedLogLemmas.{FollowedLogsAreCommits-holds}
use Rattle.epx_follow.proofs.laws.followed_logs_are_commits.Goals as goal

pub returns : goal.returns
returns c = FollowedLogsAreCommits-holds
