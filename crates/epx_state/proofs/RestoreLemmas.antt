-- An executor that is made of the parts of a state holds them, or one of the instances was ready.
use Rattle.std.proofs.Common.{◌≡◌, ◌↔◌, inl, inr, ℕ, ◌+◌, ◌<◌, Bool, false, List, []}
use Rattle.std.proofs.Common.{◌∷◌, length, All, Contains, slice_get, Some, refl, sym}
use Rattle.std.proofs.Common.{ap, ◌∙◌, subst, arith, option_map, T, IsTrue, ℤ, get_or}
use Rattle.std.specs.FinMap as contents
use Rattle.std.proofs.lemmas.Option.{slice_get-map}
use Rattle.epx_types.proofs.Common.{Agree, All-contains, Contains-cons, Contains-from_map}
use Rattle.epx_types.proofs.Common.{Contains-head, Contains-map, Contains-nil}
use Rattle.epx_types.proofs.Common.{Contains-remaining_iff, Contains-slice_get, Contents, Execution}
use Rattle.epx_types.proofs.Common.{Instance, IsCommittedBy, IsCommittedBy-unique}
use Rattle.epx_types.proofs.Common.{IsExecutionOrder-IsLawful, IsFirstDisagreement-not_Agree}
use Rattle.epx_types.proofs.Common.{IsReady, IsRising, IsRising-same, Placed, commands_in, execute}
use Rattle.epx_types.proofs.Common.{ids_of, length-map, max_instances}
use Rattle.epx_types.proofs.Common.{is_among-false, ranked_ids, remaining, slice_get-from_map}
use Rattle.epx_types.proofs.Common.{is_sorted}
use Rattle.epx_types.proofs.Common.{key_cmp, cases_lt, get_or_default, get_or_from_slice_get}
use Rattle.epx_types.proofs.Common.{slice_get-get_or, slice_get_within}
use Rattle.epx_types.specs.declared.fault.Fault.{Fault}
use Rattle.epx_types.specs.declared.fault.Fault.TheVariants.{TooManyLogs, LogTooLong, BadLine}
use Rattle.epx_types.specs.declared.fault.Fault.TheVariants.{TooManyInstances, Disagree, Read}
use Rattle.epx_types.specs.declared.fault.Fault.TheVariants.{BadBase, Memory, Write}
use Rattle.epx_types.specs.declared.id.Id.{Id}
use Rattle.epx_types.specs.declared.reply.Reply.{Reply}
use Rattle.epx_committed.specs.MergedLines.{IsMerged, IsMergeFault}
use Rattle.epx_committed.proofs.InstanceCountLemmas.{ids_of-named}
use Rattle.epx_laws.specs.ResumedRunLaws.{run_on}
use Rattle.epx_report.specs.between.PutPairs.{put_pairs}
use Rattle.epx_report.proofs.BaseLemmas.{entries-put_pairs}
use Rattle.epx_executor.specs.CallLines.{call_lines}
use Rattle.epx_executor.specs.Commits.{ExecutorView, IsCommit, not_done}
use Rattle.epx_executor.specs.Runs.{IsInRuns, ids_in}
use Rattle.epx_executor.proofs.CallLineLemmas.{Contains-from_call, Contains-to_call}
use Rattle.epx_state.specs.StateForms.{StateParts}
use Rattle.epx_state.specs.StateFaults.{IsReadyIn, IsStateFault}
use Rattle.epx_state.specs.States.{AreInOrder, HoldsState, IsState}
use Rattle.epx_state.specs.inner.Restoring.{IsFirstAmong, IsFirstReady, IsRestoreFault}
use Rattle.epx_state.proofs.RunIdLemmas.{remaining-ids_in}

-- ---- the map that a first call commits

module _ (done : List Id) (came : List Instance) (rising : IsRising (ids_of came))
    (left : (e : Instance) → Contains came e → ¬ Contains done e.id) where
  abbrev lines : List Placed
  lines = call_lines done [] came

  came_is_committed : IsCommittedBy lines came
  came_is_committed = record {
    rising = rising;
    given = λ e h. Contains-to_call done [] came e (inr (h, left e h));
    whole = λ p h. elim (Contains-from_call done [] came p h)
        [ inl none ↦ absurd (Contains-nil p.instance none) | inr new ↦ new.0 ];
  }

  merged_is_came : (m : List Instance) → IsMerged lines m → m ≡ came
  merged_is_came m merged =
      IsCommittedBy-unique lines m came merged.committed came_is_committed

  came_agree : Agree lines
  came_agree p q h k same = IsRising-same came rising p.instance q.instance
      (came_is_committed.whole p h) (came_is_committed.whole q k) same

  too_many : IsMergeFault lines TooManyInstances → max_instances < length came
  too_many h =
      let same = ids_of-named lines came h.0 came_is_committed h.1 in
      omega (arith, h.2, ap length same, length-map came (λ (e : Instance). e.id))

-- if nothing comes, only memory can run out
module _ (done : List Id) where
  pub IsMergeFault-is_memory : (f : Fault) → IsMergeFault (call_lines done [] []) f → f ≡ Memory
  IsMergeFault-is_memory Memory h = refl
  IsMergeFault-is_memory TooManyInstances h =
      absurd (omega (arith, too_many done [] tt (λ e n. absurd (Contains-nil e n)) h))
  IsMergeFault-is_memory (Disagree id first second) h =
      absurd (IsFirstDisagreement-not_Agree (call_lines done [] []) id h.1.0 h.1.1 h.1.2
      (came_agree done [] tt (λ e n. absurd (Contains-nil e n))))
  IsMergeFault-is_memory TooManyLogs h = absurd h
  IsMergeFault-is_memory (LogTooLong log) h = absurd h
  IsMergeFault-is_memory (BadLine place why) h = absurd h
  IsMergeFault-is_memory (Read log) h = absurd h
  IsMergeFault-is_memory Write h = absurd h
  IsMergeFault-is_memory (BadBase line) h = absurd h

-- ---- lists of which nothing is done

not_done-all : (done : List Id) (m : List Instance)
    → ((e : Instance) → Contains m e → ¬ Contains done e.id) → not_done done m ≡ m
not_done-all done [] left = refl
not_done-all done (e ∷ m) left =
    rw (is_among-false done e.id (left e (Contains-head e m)))
    (ap (λ (es : List Instance). e ∷ es) (not_done-all done m
    (λ d h. left d (Contains-cons e m d h))))

none_listed : (ids : List Id) → ((x : Id) → ¬ Contains ids x) → ids ≡ []
none_listed [] none = refl
none_listed (x ∷ ids) none = absurd (none x (Contains-head x ids))

-- ---- the first commit of the parts

module _ (p : StateParts) (ordered : AreInOrder p) (done : List Id)
    (same : (x : Id) → Contains done x ↔ IsInRuns p.runs x) where
  is_left : (e : Instance) → Contains p.waiting e → ¬ Contains done e.id
  is_left e h there = ordered.left e h ((same e.id).0 there)

  pub IsRestoreFault-from_merge : (f : Fault)
      → IsMergeFault (call_lines done [] p.waiting) f → IsRestoreFault p f
  IsRestoreFault-from_merge Memory h = tt
  IsRestoreFault-from_merge TooManyInstances h =
      too_many done p.waiting ordered.waiting is_left h
  IsRestoreFault-from_merge (Disagree id first second) h =
      absurd (IsFirstDisagreement-not_Agree (call_lines done [] p.waiting) id h.1.0 h.1.1 h.1.2
      (came_agree done p.waiting ordered.waiting is_left))
  IsRestoreFault-from_merge TooManyLogs h = absurd h
  IsRestoreFault-from_merge (LogTooLong log) h = absurd h
  IsRestoreFault-from_merge (BadLine place why) h = absurd h
  IsRestoreFault-from_merge (Read log) h = absurd h
  IsRestoreFault-from_merge Write h = absurd h
  IsRestoreFault-from_merge (BadBase line) h = absurd h

  module _ (store : Contents) (after : ExecutorView) (replies : List (Id × Reply))
      (commit : IsCommit (record { done = done; store = store; pending = [] }) p.waiting after
      replies) where
    other_is_waiting : commit.other ≡ p.waiting
    other_is_waiting = merged_is_came done p.waiting ordered.waiting is_left commit.other
        commit.merged

    abbrev executed : List Id
    executed = ranked_ids commit.order

    same_map : remaining done commit.other ≡ remaining (ids_in p.runs) p.waiting
    same_map = ap (remaining done) other_is_waiting
        ∙ remaining-ids_in done p.runs same p.waiting

    executed_is_ready : (x : Id) → Contains executed x
        → IsReady (remaining (ids_in p.runs) p.waiting) x
    executed_is_ready x h = subst (λ (m : List Instance). IsReady m x) same_map
        ((IsExecutionOrder-IsLawful (remaining done commit.other) commit.order commit.ordered).only
        x h)

    ready_is_executed : (x : Id) → IsReady (remaining (ids_in p.runs) p.waiting) x
        → Contains executed x
    ready_is_executed x h = commit.ordered.whole x
        (subst (λ (m : List Instance). IsReady m x) (sym same_map) h)

    -- an instance that is ready is executed, and no other one
    ready_is_done : (e : Instance) → IsReadyIn p e → Contains after.done e.id
    ready_is_done e h = (commit.done e.id).1 (inr (ready_is_executed e.id h))

    done_is_ready : (e : Instance) → Contains p.waiting e → Contains after.done e.id
        → IsReadyIn p e
    done_is_ready e h there = elim ((commit.done e.id).0 there)
        [ inl old ↦ absurd (is_left e h old) | inr new ↦ executed_is_ready e.id new ]

    pub IsFirstReady-first_among : (position line : ℕ)
        → IsFirstAmong after.done (ids_of p.waiting) position
        → line ≡ 2 + length p.runs + position → IsFirstReady p line
    IsFirstReady-first_among position line h at =
        let e = slice_get-from_map (λ (i : Instance). i.id) p.waiting position h.id h.there in
        record {
          number = position;
          ready = e.0;
          there = e.1;
          is_ready = done_is_ready e.0 (Contains-slice_get p.waiting position e.0 e.1)
              (subst (Contains after.done) (sym e.2) h.among);
          first = λ k d l listed is.
              let id_there : slice_get (ids_of p.waiting) k ≡ Some d.id =
              slice_get-map (λ (i : Instance). i.id) p.waiting k
              ∙ ap (option_map (λ (i : Instance). i.id)) listed in
              h.first k d.id l id_there (ready_is_done d is);
          line_is = at;
        }

    -- if none of the instances is executed, the executor holds the parts
    module _ (none : All (λ x. ¬ Contains after.done x) (ids_of p.waiting)) where
      still_waits : (e : Instance) → Contains p.waiting e → ¬ Contains after.done e.id
      still_waits e h = All-contains (λ x. ¬ Contains after.done x) (ids_of p.waiting) e.id none
          (Contains-map (λ (i : Instance). i.id) p.waiting e h)

      none_executed : executed ≡ []
      none_executed = none_listed executed (λ x h.
          let ready = executed_is_ready x h in
          let among = ((Contains-remaining_iff (ids_in p.runs) p.waiting x).0 ready.committed).0 in
          let e = Contains-from_map (λ (i : Instance). i.id) p.waiting x among in
          still_waits e.0 e.1 (subst (Contains after.done) (sym e.2)
          ((commit.done x).1 (inr h))))

      run_is_empty : run_on done store commit.other commit.order
          ≡ record { replies = []; final = store }
      run_is_empty = ap (λ (ids : List Id).
          execute (commands_in (remaining done commit.other) ids) store) none_executed

      pub HoldsState-parts : contents.entries store ≡ p.stored → HoldsState p after
      HoldsState-parts entries = record {
        done = λ x. (
          λ h. elim ((commit.done x).0 h) [
            | inl old ↦ (same x).0 old
            | inr new ↦ absurd (Contains-nil x
                (subst (λ (ids : List Id). Contains ids x) none_executed new))
          ],
          λ h. (commit.done x).1 (inl ((same x).1 h)),
        );
        pending = commit.pending ∙ ap (not_done after.done) other_is_waiting
            ∙ not_done-all after.done p.waiting still_waits;
        store = ap contents.entries (commit.store
            ∙ ap (λ (e : Execution). e.final) run_is_empty) ∙ entries;
      }

-- the store of pairs whose keys rise has these pairs
pub entries-put_rising : (ps : List (List ℕ × ℤ)) (store : Contents)
    → store ≡ put_pairs ps contents.empty → IsTrue (is_sorted key_cmp ps)
    → contents.entries store ≡ ps
entries-put_rising ps store is rises =
    ap contents.entries is ∙ entries-put_pairs ps (subst T (sym rises) tt)

-- ---- the first executed instance

-- the Id at a position is the first one that is among the done ones
pub IsFirstAmong-at : (done ids : List Id) (position : ℕ) (d : Id) → position < length ids
    → Contains done (get_or ids position d)
    → ((k : ℕ) (e : Id) → k < position → k < length ids → ¬ Contains done (get_or ids k e))
    → IsFirstAmong done ids position
IsFirstAmong-at done ids position d l h none = record {
  id = get_or ids position d;
  there = slice_get-get_or ids position d l;
  among = h;
  first = λ k x m listed among. none k x m (slice_get_within ids k x listed)
      (subst (Contains done) (sym (get_or_from_slice_get ids k x x listed)) among);
}

-- one more Id is not among them
pub Contains-none_further : (done ids : List Id) (n : ℕ) (d : Id) (b : Bool)
    → (IsTrue b ↔ Contains done (get_or ids n d)) → b ≡ false → n < length ids
    → ((k : ℕ) (e : Id) → k < n → k < length ids → ¬ Contains done (get_or ids k e))
    → (k : ℕ) (e : Id) → k < n + 1 → k < length ids → ¬ Contains done (get_or ids k e)
Contains-none_further done ids n d b same fails l none k e low m among =
    elim (cases_lt k n) [
      | inl before ↦ none k e before m among
      | inr from ↦
          let here : k ≡ n = omega arith in
          let at : get_or ids k e ≡ get_or ids n d =
          ap (λ (j : ℕ). get_or ids j e) here ∙ get_or_default ids n e d l in
          cc (sym fails ∙ same.1 (subst (Contains done) at among))
    ]

-- ---- faults

pub IsStateFault-from_restore : (bytes : List ℕ) (p : StateParts) (f : Fault)
    → IsState bytes p → IsRestoreFault p f → IsStateFault bytes f
IsStateFault-from_restore bytes p Memory is h = tt
IsStateFault-from_restore bytes p (BadBase line) is h = inr (inr (record {
  parts = p;
  whole = is;
  number = h.number;
  ready = h.ready;
  there = h.there;
  is_ready = h.is_ready;
  first = h.first;
  line_is = h.line_is;
}))
IsStateFault-from_restore bytes p TooManyInstances is h = (p, is, h)
IsStateFault-from_restore bytes p (Disagree id first second) is h = absurd h
IsStateFault-from_restore bytes p TooManyLogs is h = absurd h
IsStateFault-from_restore bytes p (LogTooLong log) is h = absurd h
IsStateFault-from_restore bytes p (BadLine place why) is h = absurd h
IsStateFault-from_restore bytes p (Read log) is h = absurd h
IsStateFault-from_restore bytes p Write is h = absurd h
