-- Ids that are paired with replies, one after another.
use Rattle.std.proofs.Common.{◌≡◌, List, ◌++◌, length, zip}
use Rattle.epx_types.specs.declared.id.Id.{Id}
use Rattle.epx_types.specs.declared.reply.Reply.{Reply}

-- the pairs so far, and what is left of both lists
pub record ArePairedUpTo (ids : List Id) (replies : List Reply) (pairs all : List (Id × Reply))
    : Type 0 where
  pub same : length replies ≡ length ids
  pub parts : pairs ++ zip ids replies ≡ all
