use Rattle.epx_types.proofs.Common.{IsLeader-along, IsDepth-along, IsReady-reached}
use Rattle.epx_laws.proofs.reaching.members_are_alike.Goals as goal

pub returns : goal.returns
returns c = record {
  leader = IsLeader-along;
  depth = IsDepth-along;
  ready = λ m x y one. IsReady-reached m x y one.0;
}
