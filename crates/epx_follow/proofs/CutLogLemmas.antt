-- Logs that are cut where no batch is open, and followed by two followers.
use Rattle.std.proofs.Common.{◌≡◌, ◌∙◌, ℕ, Bool, true, false, List, [], ◌∷◌, ◌++◌, Contains}
use Rattle.std.proofs.Common.{Result, Ok, Err, append_assoc, refl, sym, ap, ap₂, subst}
use Rattle.std.proofs.Common.{true≢false}
use Rattle.epx_types.proofs.Common.{Contains-nil, Placed}
use Rattle.epx_types.specs.declared.fault.Why.{Why}
use Rattle.epx_laws.specs.AgreementLaws.{CommittedMapIsUnique}
use Rattle.epx_laws.specs.ReachingLaws.{WaitingListIsUnique}
use Rattle.epx_lines.specs.Lines.{lines_of}
use Rattle.epx_lines.specs.Meaning.{is_blank, meaning_of}
use Rattle.epx_lines.specs.declared.Line.{Line}
use Rattle.epx_lines.specs.declared.Line.TheVariants.{Blank, Entry}
use Rattle.epx_executor.specs.Commits.{ExecutorView}
use Rattle.epx_executor.specs.ExecutorLaws.{HoldTheSame, SameExecutorsCommitAlike}
use Rattle.epx_follow.specs.FollowerLaws.{CutStreamsGoOn, executor_of}
use Rattle.epx_follow.specs.Following.{FollowerView, at_next_log, instances_of, joined, passed}
use Rattle.epx_follow.specs.InputEnds.{IsFollowed}
use Rattle.epx_follow.specs.LinesTaken.{EndsIf, TakesAs}
use Rattle.epx_follow.specs.LogsTaken.{TakesLines, TakesLogs}
use Rattle.epx_follow.proofs.LogsTakenLemmas.{TakesLogs-split}
use Rattle.epx_follow.proofs.SameFollowerLemmas.{AreAlike, Follow-followed, Follow-logs}

-- ---- executors that hold the same

same_as_itself : (v : ExecutorView) → HoldTheSame v v
same_as_itself v = record { done = λ x. (λ h. h, λ h. h); store = refl; pending = refl }

-- what holds the same as one executor holds the same as another
same_as_one : (v w u : ExecutorView) → HoldTheSame v w → HoldTheSame v u → HoldTheSame w u
same_as_one v w u h k = record {
  done = λ x. (
    λ there. (k.done x).0 ((h.done x).1 there),
    λ there. (h.done x).0 ((k.done x).1 there),
  );
  store = sym h.store ∙ k.store;
  pending = sym h.pending ∙ k.pending;
}

-- ---- where no batch is open, none of its lines is held

-- each line opens the batch, so the batch that is not open is empty
abbrev IsEmptyUnlessOpen : FollowerView → Type 0
IsEmptyUnlessOpen v = v.is_open ≡ false → v.batch ≡ []

empty_if : (ends : Bool) (v w : FollowerView) (text : List ℕ) → IsEmptyUnlessOpen v
    → EndsIf ends v w text → IsEmptyUnlessOpen w
empty_if true v w text empty h = λ shut. h.closed.0
empty_if false v w text empty h = subst IsEmptyUnlessOpen (sym h.0) empty

empty_as : (each blank : Bool) (m : Result Line Why) (v w : FollowerView) (text : List ℕ)
    → TakesAs each blank m v w text → IsEmptyUnlessOpen w
empty_as each true m v w text h = λ shut. h.closed.0
empty_as each false (Ok Blank) v w text h =
    empty_if each (passed v) w text (λ shut. absurd (true≢false shut)) h
empty_as each false (Ok (Entry e)) v w text h =
    empty_if each (joined v e) w text (λ shut. absurd (true≢false shut)) h
empty_as each false (Err why) v w text h = absurd h

empty_after_lines : (each : Bool) (lines : List (List ℕ)) (v w : FollowerView) (text : List ℕ)
    → IsEmptyUnlessOpen v → TakesLines each v lines w text → IsEmptyUnlessOpen w
empty_after_lines each [] v w text empty h = subst IsEmptyUnlessOpen h.0 empty
empty_after_lines each (line ∷ lines) v w text empty h =
    empty_after_lines each lines h.0 w h.2
    (empty_as each (is_blank line) (meaning_of line) v h.0 h.1 h.3) h.4

empty_after_logs : (each : Bool) (logs : List (List ℕ)) (v w : FollowerView) (text : List ℕ)
    → IsEmptyUnlessOpen v → TakesLogs each v logs w text → IsEmptyUnlessOpen w
empty_after_logs each [] v w text empty h = subst IsEmptyUnlessOpen h.0 empty
empty_after_logs each (log ∷ logs) v w text empty h =
    empty_after_logs each logs (at_next_log h.0) w h.2
    (empty_after_lines each (lines_of log) v h.0 h.1 empty h.3) h.4

-- ---- the law

-- no line of an empty batch is of an executed instance
none_left : (v : FollowerView) → v.batch ≡ [] → (p : Placed) → Contains v.batch p
    → ¬ Contains v.done p.instance.id
none_left v empty p h =
    absurd (Contains-nil p (subst (λ (ls : List Placed). Contains ls p) empty h))

-- at the end of the input a batch that is not open stays as it is
stays : (is_open : Bool) (v w : FollowerView) (text : List ℕ) → is_open ≡ false
    → EndsIf is_open v w text → w ≡ v
stays true v w text shut h = absurd (true≢false shut)
stays false v w text shut h = h.0

module _ (map_is_unique : CommittedMapIsUnique) (list_is_unique : WaitingListIsUnique)
    (commit_alike : SameExecutorsCommitAlike) where
  pub CutStreamsGoOn-holds : CutStreamsGoOn
  CutStreamsGoOn-holds start none each first others middle begun cut shut next last text closed same
      rest other whole all =
      let parts = TakesLogs-split each start all.taken first others all.batches all.lines in
      let there = cut.taken in
      let alike : AreAlike start start = record {
        executors = same_as_itself (executor_of start);
        batch = refl;
        is_open = refl;
        left = none_left start none;
      } in
      let taken = Follow-logs map_is_unique list_is_unique commit_alike each first start start there
      parts.0 cut.batches parts.1 alike cut.lines parts.3 in
      let empty = empty_after_logs each first start there cut.batches (λ h. none) cut.lines shut in
      let middle_is : middle ≡ there =
      stays there.is_open there middle cut.ended.batch shut cut.ended.ended in
      let same_there : HoldTheSame (executor_of there) (executor_of next) =
      subst (λ (v : FollowerView). HoldTheSame (executor_of v) (executor_of next)) middle_is same in
      let goes_on : AreAlike next parts.0 = record {
        executors = same_as_one (executor_of there) (executor_of next) (executor_of parts.0)
            same_there taken.1.executors;
        batch = ap instances_of closed.0 ∙ sym (ap instances_of empty) ∙ taken.1.batch;
        is_open = closed.1 ∙ sym shut ∙ taken.1.is_open;
        left = none_left next closed.0;
      } in
      let followed : IsFollowed parts.0 each others other (parts.2 ++ all.rest) = record {
        taken = all.taken;
        batches = parts.2;
        rest = all.rest;
        lines = parts.4;
        ended = all.ended;
        printed = refl;
      } in
      let after = Follow-followed map_is_unique list_is_unique commit_alike each others next parts.0
      last other text (parts.2 ++ all.rest) goes_on rest followed in (
        all.printed ∙ ap (λ (t : List ℕ). t ++ all.rest) parts.5
            ∙ append_assoc parts.1 parts.2 all.rest
            ∙ ap₂ (λ (xs ys : List ℕ). xs ++ ys) (sym taken.0) (sym after.0),
        after.1.executors,
      )
