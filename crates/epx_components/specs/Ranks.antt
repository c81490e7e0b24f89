-- What the rank of an instance says.
use Rattle.std.specs.Prelude.{List, map}
use Rattle.epx_types.specs.ExecutionOrder.{Ranked}
use Rattle.epx_components.specs.declared.rank.Rank.{Rank}

-- a `Rank` of the code as a `Ranked` of the definitions: the same Id, sequence number, leader and
-- depth
abbrev pub ranked : Rank → Ranked
ranked r = record { id = r.id; seq = r.seq; leader = r.leader; depth = r.depth }

-- each `Rank` of the code as a `Ranked` of the definitions, in their order
abbrev pub ranked_all : List Rank → List Ranked
ranked_all ranks = map ranked ranks
