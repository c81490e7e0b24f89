-- Lists with the Ids in runs, as tests.
use Rattle.std.proofs.Common.{◌≡◌, ◌↔◌, List, Bool, Contains, IsTrue, ◌∙◌}
use Rattle.epx_types.proofs.Common.{Instance, is_among, remaining}
use Rattle.epx_types.specs.declared.id.Id.{Id}
use Rattle.epx_executor.specs.Runs.{IsInRuns, ids_in}
use Rattle.epx_executor.specs.declared.done_runs.Run.{Run}
use Rattle.epx_executor.proofs.RemainderLemmas.{is_among-decides, remaining-agree, is_among-same}
use Rattle.epx_executor.proofs.RunLemmas.{Contains-ids_in, IsInRuns-from_ids_in}

module _ (done : List Id) (runs : List Run)
    (same : (x : Id) → Contains done x ↔ IsInRuns runs x) where
  among : (x : Id) → is_among done x ≡ is_among (ids_in runs) x
  among x = is_among-same done (ids_in runs) x (
    λ h. Contains-ids_in runs x ((same x).0 h),
    λ h. (same x).1 (IsInRuns-from_ids_in runs x h),
  )

  -- a test that decides whether an Id is in the list
  pub is_among-ids_in : (b : Bool) (x : Id) → (IsTrue b ↔ Contains done x)
      → b ≡ is_among (ids_in runs) x
  is_among-ids_in b x h = is_among-decides b done x h ∙ among x

  -- what remains of a map after the done instances is what remains after those in the runs
  pub remaining-ids_in : (m : List Instance) → remaining done m ≡ remaining (ids_in runs) m
  remaining-ids_in m =
      remaining-agree done (ids_in runs) m (λ e h. among e.id) (λ e x h k. among x)
