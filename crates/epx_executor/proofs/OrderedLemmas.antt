-- The instances of the execution order of a remaining map: how many they are, and their commands.
use Rattle.std.proofs.Common.{◌≡◌, ◌≤◌, ◌^◌, List, length, Contains, sym, arith}
use Rattle.epx_types.proofs.Common.{length-map, commands_in, remaining, Ranked, ranked_ids}
use Rattle.epx_types.proofs.Common.{IsExecutionOrder, Instance, max_instances}
use Rattle.epx_types.proofs.Common.{IsExecutionOrder-IsLawful, IsExecutionOrder-length}
use Rattle.epx_types.proofs.Common.{commands-left}
use Rattle.epx_types.proofs.Common.{length-remaining, Contains-remaining_iff}
use Rattle.epx_types.specs.declared.id.Id.{Id}

module _ (done : List Id) (m : List Instance) (order : List Ranked)
    (ordered : IsExecutionOrder (remaining done m) order) where
  pub length-ranked_ids : length m ≤ max_instances → length (ranked_ids order) ≤ 2 ^ 40
  length-ranked_ids few = omega (
    arith,
    few,
    IsExecutionOrder-length (remaining done m) order ordered,
    length-remaining done m,
    length-map order (λ (r : Ranked). r.id),
  )

  pub Contains-executed_left : (x : Id) → Contains (ranked_ids order) x → ¬ Contains done x
  Contains-executed_left x there =
      let ready = (IsExecutionOrder-IsLawful (remaining done m) order ordered).only x there in
      ((Contains-remaining_iff done m x).0 ready.committed).1

  -- the commands in the map are those in what remains of it
  pub commands_in-remaining : commands_in m (ranked_ids order)
      ≡ commands_in (remaining done m) (ranked_ids order)
  commands_in-remaining = sym (commands-left done m (ranked_ids order) Contains-executed_left)
