-- Executors that hold the same.
use Rattle.std.proofs.Common.{◌≡◌, ◌↔◌, not, List, [], ◌∷◌, ◌++◌, zip, Contains, refl, sym, ap, ap₂}
use Rattle.std.proofs.Common.{◌∙◌, subst, inl, inr}
use Rattle.epx_types.proofs.Common.{commands_in, IsCommittedBy, is_among, remaining, Execution}
use Rattle.epx_types.proofs.Common.{execute, Ranked, ranked_ids, IsExecutionOrder, Instance, Placed}
use Rattle.epx_types.proofs.Common.{IsReady, Contains-nil, Contains-head, Contains-cons}
use Rattle.epx_types.proofs.Common.{IsExecutionOrder-IsLawful, is_among-false}
use Rattle.epx_types.specs.declared.id.Id.{Id}
use Rattle.epx_types.specs.declared.reply.Reply.{Reply}
use Rattle.epx_laws.specs.AgreementLaws.{CommittedMapIsUnique}
use Rattle.epx_laws.specs.OrderLaws.{ExecutionOrderIsUnique}
use Rattle.epx_laws.specs.ResumedRunLaws.{run_on}
use Rattle.epx_executor.specs.CallLines.{call_lines, lines_from, lines_not_done}
use Rattle.epx_executor.specs.Commits.{ExecutorView, IsCommit, AllWait, not_done}
use Rattle.epx_executor.specs.ExecutorLaws.{HoldTheSame}
use Rattle.epx_executor.proofs.CallLineLemmas.{Contains-merged}
use Rattle.epx_executor.proofs.FilterLemmas.{filter-agree}
use Rattle.epx_executor.proofs.RemainderLemmas.{remaining-agree, is_among-same, not_done-same}
use Rattle.epx_executor.proofs.RemainderLemmas.{remaining-same}

-- ---- done lists with the same Ids

module _ (a b : List Id) (same : (x : Id) → Contains a x ↔ Contains b x) where
  among : (x : Id) → is_among a x ≡ is_among b x
  among x = is_among-same a b x (same x)

  remaining_alike : (m : List Instance) → remaining a m ≡ remaining b m
  remaining_alike m = remaining-agree a b m (λ e h. among e.id) (λ e x h k. among x)

  not_done_alike : (m : List Instance) → not_done a m ≡ not_done b m
  not_done_alike m = filter-agree (λ (e : Instance). not (is_among a e.id))
      (λ (e : Instance). not (is_among b e.id)) m (λ e h. ap not (among e.id))

  lines_alike : (lines : List Placed) → lines_not_done a lines ≡ lines_not_done b lines
  lines_alike lines = filter-agree (λ (p : Placed). not (is_among a p.instance.id))
      (λ (p : Placed). not (is_among b p.instance.id)) lines
      (λ p h. ap not (among p.instance.id))

-- ---- executors that hold the same commit alike

module _ (map_is_unique : CommittedMapIsUnique) (order_is_unique : ExecutionOrderIsUnique)
    (v w : ExecutorView) (same : HoldTheSame v w) (came : List Instance)
    (next last : ExecutorView) (replies others : List (Id × Reply))
    (first : IsCommit v came next replies) (second : IsCommit w came last others) where
  same_lines : call_lines v.done v.pending came ≡ call_lines w.done w.pending came
  same_lines =
      ap₂ (λ ps ls. lines_from 0 1 ps ++ ls) same.pending
      (lines_alike v.done w.done same.done (lines_from 1 1 came))

  same_other : first.other ≡ second.other
  same_other = map_is_unique (call_lines w.done w.pending came) first.other second.other
      (subst (λ (ls : List Placed). IsCommittedBy ls first.other) same_lines
      first.merged.committed) second.merged.committed

  same_map : remaining v.done first.other ≡ remaining w.done second.other
  same_map = remaining_alike v.done w.done same.done first.other
      ∙ ap (remaining w.done) same_other

  same_order : first.order ≡ second.order
  same_order = order_is_unique (remaining w.done second.other) first.order second.order
      (subst (λ (m : List Instance). IsExecutionOrder m first.order) same_map first.ordered)
      second.ordered

  same_run : run_on v.done v.store first.other first.order
      ≡ run_on w.done w.store second.other second.order
  same_run =
      ap (λ (m : List Instance). execute (commands_in m (ranked_ids first.order)) v.store) same_map
      ∙ ap (λ (o : List Ranked).
      execute (commands_in (remaining w.done second.other) (ranked_ids o)) v.store) same_order
      ∙ ap (execute (commands_in (remaining w.done second.other) (ranked_ids second.order)))
      same.store

  pub replies-same : replies ≡ others
  replies-same =
      first.replied ∙ ap₂ (λ (o : List Ranked) (e : Execution). zip (ranked_ids o) e.replies)
      same_order same_run ∙ sym second.replied

  same_done : (x : Id) → Contains next.done x ↔ Contains last.done x
  same_done x = (
    λ h. (second.done x).1 (elim ((first.done x).0 h) [
      | inl old ↦ inl ((same.done x).0 old)
      | inr new ↦ inr (subst (λ (o : List Ranked). Contains (ranked_ids o) x) same_order new)
    ]),
    λ h. (first.done x).1 (elim ((second.done x).0 h) [
      | inl old ↦ inl ((same.done x).1 old)
      | inr new ↦ inr (subst (λ (o : List Ranked). Contains (ranked_ids o) x) (sym same_order)
          new)
    ]),
  )

  pub HoldTheSame-next : HoldTheSame next last
  HoldTheSame-next = record {
    done = same_done;
    store = first.store ∙ ap (λ (e : Execution). e.final) same_run ∙ sym second.store;
    pending = first.pending ∙ not_done_alike next.done last.done same_done first.other
        ∙ ap (not_done last.done) same_other ∙ sym second.pending;
  }

-- ---- an executor that starts from what another one holds

not_done-all : (done : List Id) (m : List Instance)
    → ((e : Instance) → Contains m e → ¬ Contains done e.id) → not_done done m ≡ m
not_done-all done [] left = refl
not_done-all done (e ∷ m) left =
    rw (is_among-false done e.id (left e (Contains-head e m)))
    (ap (λ es. e ∷ es) (not_done-all done m (λ d h. left d (Contains-cons e m d h))))

none_ordered : (ids : List Id) → ((x : Id) → ¬ Contains ids x) → ids ≡ []
none_ordered [] none = refl
none_ordered (x ∷ ids) none = absurd (none x (Contains-head x ids))

module _ (v : ExecutorView) (settled : AllWait v) (done : List Id)
    (same : (x : Id) → Contains done x ↔ Contains v.done x) (after : ExecutorView)
    (replies : List (Id × Reply))
    (commit : IsCommit (record { done = done; store = v.store; pending = [] }) v.pending after
    replies) where
  left_as_pending : (e : Instance) → Contains v.pending e → ¬ Contains done e.id
  left_as_pending e h there = settled.not_done e h ((same e.id).0 there)

  other_is_pending : (e : Instance) → Contains commit.other e ↔ Contains v.pending e
  other_is_pending e = (
    λ h. elim ((Contains-merged done [] v.pending commit.other commit.merged e).0 h)
        [ inl none ↦ absurd (Contains-nil e none) | inr new ↦ new.0 ],
    λ h. (Contains-merged done [] v.pending commit.other commit.merged e).1
        (inr (h, left_as_pending e h)),
  )

  same_remainder : remaining done commit.other ≡ remaining v.done v.pending
  same_remainder =
      remaining-same done commit.other v.pending commit.merged.committed.rising settled.rising
      (λ e left. other_is_pending e) ∙ remaining_alike done v.done same v.pending

  none_executed : ranked_ids commit.order ≡ []
  none_executed = none_ordered (ranked_ids commit.order) (λ x h.
      settled.none_ready x (subst (λ (m : List Instance). IsReady m x) same_remainder
      ((IsExecutionOrder-IsLawful (remaining done commit.other) commit.order commit.ordered).only
      x h)))

  run_is_empty : run_on done v.store commit.other commit.order
      ≡ record { replies = []; final = v.store }
  run_is_empty = ap (λ (ids : List Id).
      execute (commands_in (remaining done commit.other) ids) v.store) none_executed

  done_stays : (x : Id) → Contains after.done x ↔ Contains v.done x
  done_stays x = (
    λ h. elim ((commit.done x).0 h) [
      | inl old ↦ (same x).0 old
      | inr new ↦ absurd (Contains-nil x
          (subst (λ (ids : List Id). Contains ids x) none_executed new))
    ],
    λ h. (commit.done x).1 (inl ((same x).1 h)),
  )

  pub replies-none : replies ≡ []
  replies-none =
      commit.replied ∙ ap₂ (λ (ids : List Id) (e : Execution). zip ids e.replies) none_executed
      run_is_empty

  pub HoldTheSame-after : HoldTheSame after v
  HoldTheSame-after = record {
    done = done_stays;
    store = commit.store ∙ ap (λ (e : Execution). e.final) run_is_empty;
    pending = commit.pending
        ∙ not_done-same after.done commit.other v.pending commit.merged.committed.rising
        settled.rising (λ e left. other_is_pending e)
        ∙ not_done-all after.done v.pending
        (λ e h there. settled.not_done e h ((done_stays e.id).0 there));
  }
