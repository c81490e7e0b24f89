-- What the calls of an executor execute, one after another.
use Rattle.std.proofs.Common.{◌≡◌, ◌⊎◌, List, [], ◌∷◌, ◌++◌, map, zip, length, Contains, refl, sym}
use Rattle.std.proofs.Common.{ap, ap₂, ◌∙◌, subst, inl, inr, arith}
use Rattle.epx_types.proofs.Common.{append_assoc, append-nil, length-map, map-append, instance_of}
use Rattle.epx_types.proofs.Common.{ops_or_empty, commands_in, Contents, remaining, remaining_ids}
use Rattle.epx_types.proofs.Common.{Execution, execute, ranked_ids, Instance, IsLawfulPrefix}
use Rattle.epx_types.proofs.Common.{IsLawfulFor, IsLawful, IsReady, HasRemaining, execute-append}
use Rattle.epx_types.proofs.Common.{length-replies, Contains-nil, Contains-head}
use Rattle.epx_types.proofs.Common.{IsExecutionOrder-IsLawful, IsLawfulFor-same}
use Rattle.epx_types.proofs.Common.{IsLawfulFor-together, IsLawful-part_and_rest}
use Rattle.epx_types.proofs.Common.{IsLawfulAfter-left, commands_in-left}
use Rattle.epx_types.specs.declared.id.Id.{Id}
use Rattle.epx_types.specs.declared.reply.Reply.{Reply}
use Rattle.std.specs.FinMap as contents
use Rattle.epx_laws.specs.ResumedRunLaws.{run_on}
use Rattle.epx_executor.specs.Commits.{ExecutorView, IsCommit}
use Rattle.epx_executor.specs.ExecutorLaws.{IsSoundFor, CommittingStaysSound, new_executor}
use Rattle.epx_executor.specs.HistoryLaws.{AreCommits, Call, CameFrom, executed_ids, replies_of}
use Rattle.epx_executor.proofs.CommitLemmas.{HasRemaining-other}
use Rattle.epx_executor.proofs.HistoryLemmas.{CameFrom-later}

-- ---- the parts of pairs

pub map-zip_firsts : {X Y : Type 0} (xs : List X) (ys : List Y) → length ys ≡ length xs
    → map (λ p. p.0) (zip xs ys) ≡ xs
map-zip_firsts [] ys e = refl
map-zip_firsts (x ∷ xs) [] e = absurd (omega (arith, e))
map-zip_firsts (x ∷ xs) (y ∷ ys) e = ap (λ zs. x ∷ zs) (map-zip_firsts xs ys (omega (arith, e)))

zip_seconds : {X Y : Type 0} (xs : List X) (ys : List Y) → length ys ≡ length xs
    → map (λ p. p.1) (zip xs ys) ≡ ys
zip_seconds [] [] e = refl
zip_seconds [] (y ∷ ys) e = absurd (omega (arith, e))
zip_seconds (x ∷ xs) [] e = absurd (omega (arith, e))
zip_seconds (x ∷ xs) (y ∷ ys) e = ap (λ zs. y ∷ zs) (zip_seconds xs ys (omega (arith, e)))

-- ---- one commit more

-- the Ids are lawful for what is done; executing them gives these replies, and leaves the store
pub record HasExecuted (m : List Instance) (v : ExecutorView) (ids : List Id)
    (replies : List Reply) : Type 0 where
  pub lawful : IsLawfulFor m (Contains v.done) ids
  pub run : execute (commands_in m ids) contents.empty
      ≡ record { replies = replies; final = v.store }

module _ (m came : List Instance) (before after : ExecutorView) (replies : List (Id × Reply))
    (sound : IsSoundFor m before) (has : HasRemaining m before.done came)
    (commit : IsCommit before came after replies) where
  abbrev new_ids : List Id
  new_ids = ranked_ids commit.order

  abbrev new_run : Execution
  new_run = run_on before.done before.store commit.other commit.order

  same_length : length new_run.replies ≡ length new_ids
  same_length =
      length-replies (commands_in (remaining before.done commit.other) new_ids) before.store
      ∙ length-map new_ids (λ x. ops_or_empty (instance_of (remaining before.done commit.other) x))

  pub map-ids_of_replies : map (λ (p : Id × Reply). p.0) replies ≡ new_ids
  map-ids_of_replies = ap (map (λ (p : Id × Reply). p.0)) commit.replied
      ∙ map-zip_firsts new_ids new_run.replies same_length

  pub map-replies_of_replies : map (λ (p : Id × Reply). p.1) replies ≡ new_run.replies
  map-replies_of_replies = ap (map (λ (p : Id × Reply). p.1)) commit.replied
      ∙ zip_seconds new_ids new_run.replies same_length

  is_lawful : IsLawful (remaining before.done commit.other) new_ids
  is_lawful = IsExecutionOrder-IsLawful (remaining before.done commit.other) commit.order
      commit.ordered

  module _ (ids : List Id) (old : List Reply) (executed : HasExecuted m before ids old) where
    lawful_with : IsLawfulFor m (Contains after.done) (ids ++ new_ids)
    lawful_with =
        IsLawfulFor-same m
        (λ x. Contains before.done x ⊎ IsReady (remaining before.done commit.other) x)
        (Contains after.done) (ids ++ new_ids)
        (λ x h. (commit.done x).1 (elim h
        [ inl was ↦ inl was | inr ready ↦ inr (is_lawful.whole x ready) ]))
        (λ x h. elim ((commit.done x).0 h)
        [ inl was ↦ inl was | inr new ↦ inr (is_lawful.only x new) ])
        (IsLawfulFor-together m (Contains before.done) (IsReady (remaining before.done
        commit.other)) sound.sound.closed ids new_ids executed.lawful
        (IsLawfulAfter-left m commit.other before.done sound.rising sound.sound.ready
        sound.sound.closed (HasRemaining-other m came before after replies sound has commit) new_ids
        is_lawful))

    -- the new commands, over what the earlier ones left
    new_part : execute (commands_in m new_ids) (execute (commands_in m ids) contents.empty).final
        ≡ new_run
    new_part =
        ap (λ e. execute (commands_in m new_ids) e.final) executed.run
        ∙ ap (λ os. execute os before.store) (sym (commands_in-left m commit.other before.done
        sound.rising sound.sound.ready sound.sound.closed
        (HasRemaining-other m came before after replies sound has commit) new_ids is_lawful))

    run_with : execute (commands_in m (ids ++ new_ids)) contents.empty
        ≡ record { replies = old ++ new_run.replies; final = after.store }
    run_with =
        let parts = execute-append (commands_in m ids) (commands_in m new_ids) contents.empty in
        ap (λ os. execute os contents.empty)
        (map-append (λ x. ops_or_empty (instance_of m x)) ids new_ids)
        ∙ ap₂ (λ (rs : List Reply) (c : Contents). record { replies = rs; final = c })
        (parts.0 ∙ ap₂ (λ rs qs. rs ++ qs) (ap (λ e. e.replies) executed.run)
        (ap (λ e. e.replies) new_part))
        (parts.1 ∙ ap (λ e. e.final) new_part ∙ sym commit.store)

    pub HasExecuted-with_new : HasExecuted m after (ids ++ new_ids) (old ++ new_run.replies)
    HasExecuted-with_new = record { lawful = lawful_with; run = run_with }

-- ---- all calls

module _ (m : List Instance) (stays : CommittingStaysSound) where
  pub HasExecuted-after : (calls : List Call) (before after : ExecutorView) → IsSoundFor m before
      → AreCommits before calls after → CameFrom m calls → (ids : List Id) (replies : List Reply)
      → HasExecuted m before ids replies
      → HasExecuted m after (ids ++ executed_ids calls) (replies ++ replies_of calls)
  HasExecuted-after [] before after sound are from ids replies executed =
      subst (λ (xs : List Id). HasExecuted m after xs (replies ++ [])) (sym (append-nil ids))
      (subst (λ (rs : List Reply). HasExecuted m after ids rs) (sym (append-nil replies))
      (subst (λ (v : ExecutorView). HasExecuted m v ids replies) are executed))
  HasExecuted-after (call ∷ calls) before after sound are from ids replies executed =
      let has = λ (e : Instance) (h : Contains call.0 e) (left : ¬ Contains before.done e.id).
      from call (Contains-head call calls) e h in
      let xs = map (λ (p : Id × Reply). p.0) call.1 in
      let rs = map (λ (p : Id × Reply). p.1) call.1 in
      let new =
      HasExecuted-with_new m call.0 before are.0 call.1 sound has are.1 ids replies executed in
      let here : HasExecuted m are.0 (ids ++ xs) (replies ++ rs) =
      subst (λ (ys : List Id). HasExecuted m are.0 (ids ++ ys) (replies ++ rs))
      (sym (map-ids_of_replies m call.0 before are.0 call.1 sound has are.1))
      (subst (λ (qs : List Reply).
      HasExecuted m are.0 (ids ++ ranked_ids are.1.order) (replies ++ qs))
      (sym (map-replies_of_replies m call.0 before are.0 call.1 sound has are.1)) new) in
      subst (λ (ys : List Id). HasExecuted m after ys (replies ++ replies_of (call ∷ calls)))
      (append_assoc ids xs (executed_ids calls))
      (subst (λ (qs : List Reply). HasExecuted m after ((ids ++ xs) ++ executed_ids calls) qs)
      (append_assoc replies rs (replies_of calls))
      (HasExecuted-after calls are.0 after
      (stays m call.0 before are.0 call.1 sound has are.1) are.2
      (CameFrom-later m call calls from) (ids ++ xs) (replies ++ rs) here))

-- a new executor has executed nothing
pub HasExecuted-nothing : (m : List Instance) → HasExecuted m new_executor [] []
HasExecuted-nothing m = record {
  lawful = record {
    once = λ i j d l k. absurd (omega arith);
    only = λ x h. h;
    whole = λ x h. h;
    after_reached = λ x y h there back. absurd (Contains-nil x h);
    by_sequence = λ x y h k one lower. absurd (Contains-nil x h);
  };
  run = refl;
}

-- what is lawful for sound done instances begins a lawful order
pub IsLawfulPrefix-from_done : (m : List Instance) (v : ExecutorView) (ids whole : List Id)
    → IsSoundFor m v → IsLawfulFor m (Contains v.done) ids → IsLawful m whole
    → IsLawfulPrefix m ids
IsLawfulPrefix-from_done m v ids whole sound lawful ordered = (
  remaining_ids ids whole,
  IsLawful-part_and_rest m (Contains v.done) sound.sound.ready sound.sound.closed ids whole lawful
      ordered,
)
