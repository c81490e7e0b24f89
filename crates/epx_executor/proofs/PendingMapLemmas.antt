-- The pending instances are the map that their lines commit.
use Rattle.std.proofs.Common.{◌≡◌, ◌≤◌, List, [], length, Contains, refl, ap, subst, inl, inr}
use Rattle.std.proofs.Common.{arith}
use Rattle.epx_types.proofs.Common.{length-map, ids_of, IsCommittedBy, IsCommittedBy-unique}
use Rattle.epx_types.proofs.Common.{IsRising, IsRising-same, Instance, max_instances, Placed, Agree}
use Rattle.epx_types.proofs.Common.{IsFirstDisagreement-not_Agree, Contains-nil, Contains-from_map}
use Rattle.epx_types.specs.declared.id.Id.{Id}
use Rattle.epx_types.specs.declared.fault.Fault.{Fault}
use Rattle.epx_types.specs.declared.fault.Fault.TheVariants.{TooManyLogs, LogTooLong, BadLine}
use Rattle.epx_types.specs.declared.fault.Fault.TheVariants.{TooManyInstances, Disagree, Read}
use Rattle.epx_types.specs.declared.fault.Fault.TheVariants.{BadBase, Memory, Write}
use Rattle.epx_committed.specs.MergedLines.{IsMerged, IsMergeFault}
use Rattle.epx_committed.proofs.InstanceCountLemmas.{ids_of-named}
use Rattle.epx_executor.specs.CallLines.{call_lines}
use Rattle.epx_executor.proofs.CallLineLemmas.{Contains-from_call, Contains-to_call}

pub Contains-ids_left : (done : List Id) (pending m : List Instance) → m ≡ pending
    → ((e : Instance) → Contains pending e → ¬ Contains done e.id)
    → (x : Id) → Contains (ids_of m) x → ¬ Contains done x
Contains-ids_left done pending m same left x h =
    let e = Contains-from_map (λ (i : Instance). i.id) m x h in
    subst (λ (y : Id). ¬ Contains done y) e.2
    (left e.0 (subst (λ (l : List Instance). Contains l e.0) same e.1))

module _ (done : List Id) (pending : List Instance) (rising : IsRising (ids_of pending)) where
  abbrev lines : List Placed
  lines = call_lines done pending []

  committed : IsCommittedBy lines pending
  committed = record {
    rising = rising;
    given = λ e h. Contains-to_call done pending [] e (inl h);
    whole = λ p h. elim (Contains-from_call done pending [] p h)
        [ inl old ↦ old | inr new ↦ absurd (Contains-nil p.instance new.0) ];
  }

  pub IsMerged-is_pending : (m : List Instance) → IsMerged lines m → m ≡ pending
  IsMerged-is_pending m merged =
      IsCommittedBy-unique lines m pending merged.committed committed

  pending_agree : Agree lines
  pending_agree p q h k same = IsRising-same pending rising p.instance q.instance
      (committed.whole p h) (committed.whole q k) same

  -- where few are pending, the only fault is out of memory
  pub IsMergeFault-only_memory : length pending ≤ max_instances → (f : Fault) → IsMergeFault lines f
      → f ≡ Memory
  IsMergeFault-only_memory few Memory h = refl
  IsMergeFault-only_memory few TooManyInstances h =
      let same = ids_of-named lines pending h.0 committed h.1 in
      absurd (omega (arith, few, h.2, ap length same, length-map pending (λ (e : Instance). e.id)))
  IsMergeFault-only_memory few (Disagree id first second) h =
      absurd (IsFirstDisagreement-not_Agree lines id h.1.0 h.1.1 h.1.2 pending_agree)
  IsMergeFault-only_memory few TooManyLogs h = absurd h
  IsMergeFault-only_memory few (LogTooLong log) h = absurd h
  IsMergeFault-only_memory few (BadLine place why) h = absurd h
  IsMergeFault-only_memory few (Read log) h = absurd h
  IsMergeFault-only_memory few Write h = absurd h
  IsMergeFault-only_memory few (BadBase line) h = absurd h
