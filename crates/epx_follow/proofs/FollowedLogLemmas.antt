-- Logs that are followed to their ends, as calls of an executor.
use Rattle.std.proofs.Common.{◌≡◌, inl, inr, ◌∙◌, ℕ, Bool, true, false, List, [], ◌∷◌, ◌++◌}
use Rattle.std.proofs.Common.{length, Contains, Result, Ok, Err, ap, append-nil}
use Rattle.std.proofs.Common.{append_assoc, refl, subst, subst₂, sym}
use Rattle.epx_types.proofs.Common.{Contains-append_cases, Contains-cons, Contains-cons_cases}
use Rattle.epx_types.proofs.Common.{Contains-from_map, Contains-head, Contains-nil, Instance}
use Rattle.epx_types.proofs.Common.{Placed}
use Rattle.epx_types.specs.declared.fault.Why.{Why}
use Rattle.epx_lines.specs.Lines.{lines_of}
use Rattle.epx_lines.specs.Meaning.{is_blank, meaning_of}
use Rattle.epx_lines.specs.declared.Line.{Line}
use Rattle.epx_lines.specs.declared.Line.TheVariants.{Blank, Entry}
use Rattle.epx_executor.specs.Commits.{ExecutorView}
use Rattle.epx_executor.specs.HistoryLaws.{AreCommits, Call}
use Rattle.epx_follow.specs.BatchEnds.{EndsBatch, batch_text, count_new}
use Rattle.epx_follow.specs.FollowerLaws.{AreBatchTexts, FollowedLogsAreCommits, executor_of}
use Rattle.epx_follow.specs.Following.{FollowerView, at_next_log, instances_of, joined}
use Rattle.epx_follow.specs.Following.{passed}
use Rattle.epx_follow.specs.LinesTaken.{EndsIf, TakesAs}
use Rattle.epx_follow.specs.LogsTaken.{TakesLines, TakesLogs}
use Rattle.epx_follow.proofs.BatchEndLemmas.{BatchIsACommit-holds}
use Rattle.epx_follow.proofs.HoldLemmas.{Contains-joined}

-- ---- calls after others

AreCommits-append : (calls more : List Call) (v w u : ExecutorView) → AreCommits v calls w
    → AreCommits w more u → AreCommits v (calls ++ more) u
AreCommits-append [] more v w u h k =
    subst (λ (a : ExecutorView). AreCommits a more u) (sym h) k
AreCommits-append (call ∷ calls) more v w u h k =
    (h.0, h.1, AreCommits-append calls more h.0 w u h.2 k)

AreBatchTexts-append : (calls more : List Call) (first rest : List ℕ)
    → AreBatchTexts calls first → AreBatchTexts more rest
    → AreBatchTexts (calls ++ more) (first ++ rest)
AreBatchTexts-append [] more first rest h k =
    subst (λ t. AreBatchTexts more (t ++ rest)) (sym h) k
AreBatchTexts-append (call ∷ calls) more first rest h k = (
  h.0,
  h.1,
  h.2 ++ rest,
  AreBatchTexts-append calls more h.2 rest h.3 k,
  ap (λ t. t ++ rest) h.4 ∙ append_assoc (batch_text h.0 h.1 call.1) h.2 rest,
)

-- ---- what is followed is calls

-- M holds of each instance on a line of the logs
module _ (M : Instance → Type 0) where
  -- M holds of what comes with each call
  abbrev HoldsOfAll : List Call → Type 0
  HoldsOfAll calls = (call : Call) → Contains calls call → (e : Instance) → Contains call.0 e → M e

  -- no instance of the open batch is executed, and M holds of each
  abbrev HasBatch : FollowerView → Type 0
  HasBatch v = (p : Placed) → Contains v.batch p → (¬ Contains v.done p.instance.id) × M p.instance

  -- the follower is led here by calls, and this text is written
  record AreCalls (before : ExecutorView) (after : FollowerView) (text : List ℕ) : Type 0 where
    pub calls : List Call
    pub commits : AreCommits before calls (executor_of after)
    pub from : HoldsOfAll calls
    pub texts : AreBatchTexts calls text
    pub batch : HasBatch after

  no_calls : (v : FollowerView) → HasBatch v → AreCalls (executor_of v) v []
  no_calls v has = record {
    calls = [];
    commits = refl;
    from = λ call h. absurd (Contains-nil call h);
    texts = refl;
    batch = has;
  }

  calls_after : (v : ExecutorView) (w u : FollowerView) (first rest : List ℕ)
      → AreCalls v w first → AreCalls (executor_of w) u rest → AreCalls v u (first ++ rest)
  calls_after v w u first rest before after = record {
    calls = before.calls ++ after.calls;
    commits = AreCommits-append before.calls after.calls v (executor_of w) (executor_of u)
        before.commits after.commits;
    from = λ call h. elim (Contains-append_cases before.calls after.calls call h) [
      | inl early ↦ before.from call early
      | inr late ↦ after.from call late
    ];
    texts = AreBatchTexts-append before.calls after.calls first rest before.texts after.texts;
    batch = after.batch;
  }

  -- ---- batches

  one_call : (v w : FollowerView) (text : List ℕ) → HasBatch v → EndsBatch v w text
      → AreCalls (executor_of v) w text
  one_call v w text has ends =
      let law = BatchIsACommit-holds v w text (λ p h. (has p h).0) ends in
      let call : Call = (instances_of v.batch, law.0) in
      record {
        calls = call ∷ [];
        commits = (executor_of w, law.1, refl);
        from = λ other h e k. elim (Contains-cons_cases call [] other h) [
          | inl same ↦
              let came = Contains-from_map (λ (p : Placed). p.instance) v.batch e
              (subst (λ (c : Call). Contains c.0 e) (sym same) k) in
              subst M came.2 (has came.0 came.1).1
          | inr none ↦ absurd (Contains-nil other none)
        ];
        texts = (
          count_new v law.1.other,
          length w.pending,
          [],
          refl,
          law.2 ∙ sym (append-nil
              (batch_text (count_new v law.1.other) (length w.pending) law.0)),
        );
        batch = λ p h. absurd (Contains-nil p
            (subst (λ (ls : List Placed). Contains ls p) ends.closed.0 h));
      }

  call_if : (ends : Bool) (v w : FollowerView) (text : List ℕ) → HasBatch v
      → EndsIf ends v w text → AreCalls (executor_of v) w text
  call_if true v w text has h = one_call v w text has h
  call_if false v w text has h =
      subst₂ (λ (a : FollowerView) (t : List ℕ). AreCalls (executor_of v) a t)
      (sym h.0) (sym h.1) (no_calls v has)

  -- ---- lines

  joined_batch : (v : FollowerView) (e : Instance) → HasBatch v → M e → HasBatch (joined v e)
  joined_batch v e has holds =
      Contains-joined (λ p. (¬ Contains v.done p.instance.id) × M p.instance) v e has
      (λ left. (left, holds))

  calls_of_meaning : (each blank : Bool) (m : Result Line Why) (v w : FollowerView)
      (text : List ℕ) → HasBatch v → ((e : Instance) → m ≡ Ok (Entry e) → M e)
      → TakesAs each blank m v w text → AreCalls (executor_of v) w text
  calls_of_meaning each true m v w text has on h = one_call (passed v) w text has h
  calls_of_meaning each false (Ok Blank) v w text has on h = call_if each (passed v) w text has h
  calls_of_meaning each false (Ok (Entry e)) v w text has on h =
      call_if each (joined v e) w text (joined_batch v e has (on e refl)) h
  calls_of_meaning each false (Err why) v w text has on h = absurd h

  -- M holds of each instance on one of the lines
  abbrev HoldsOn : List (List ℕ) → Type 0
  HoldsOn lines = (line : List ℕ) → Contains lines line → (e : Instance)
      → meaning_of line ≡ Ok (Entry e) → M e

  calls_of_lines : (each : Bool) (lines : List (List ℕ)) (v w : FollowerView) (text : List ℕ)
      → HasBatch v → HoldsOn lines → TakesLines each v lines w text
      → AreCalls (executor_of v) w text
  calls_of_lines each [] v w text has on h =
      subst₂ (λ (a : FollowerView) (t : List ℕ). AreCalls (executor_of v) a t)
      h.0 (sym h.1) (no_calls v has)
  calls_of_lines each (line ∷ lines) v w text has on h =
      let first = calls_of_meaning each (is_blank line) (meaning_of line) v h.0 h.1 has
      (on line (Contains-head line lines)) h.3 in
      let rest = calls_of_lines each lines h.0 w h.2 first.batch
      (λ l k. on l (Contains-cons line lines l k)) h.4 in
      subst (AreCalls (executor_of v) w) (sym h.5)
      (calls_after (executor_of v) h.0 w h.1 h.2 first rest)

  -- ---- logs

  calls_of_logs : (each : Bool) (logs : List (List ℕ)) (v w : FollowerView) (text : List ℕ)
      → HasBatch v → ((log : List ℕ) → Contains logs log → HoldsOn (lines_of log))
      → TakesLogs each v logs w text → AreCalls (executor_of v) w text
  calls_of_logs each [] v w text has on h =
      subst₂ (λ (a : FollowerView) (t : List ℕ). AreCalls (executor_of v) a t)
      h.0 (sym h.1) (no_calls v has)
  calls_of_logs each (log ∷ logs) v w text has on h =
      let first = calls_of_lines each (lines_of log) v h.0 h.1 has
      (on log (Contains-head log logs)) h.3 in
      let rest = calls_of_logs each logs (at_next_log h.0) w h.2 first.batch
      (λ l k. on l (Contains-cons log logs l k)) h.4 in
      subst (AreCalls (executor_of v) w) (sym h.5)
      (calls_after (executor_of v) h.0 w h.1 h.2 first rest)

-- ---- the law

abbrev IsOnALine : List (List ℕ) → Instance → Type 0
IsOnALine logs e = (log : List ℕ) × Contains logs log
    × ((line : List ℕ) × Contains (lines_of log) line × (meaning_of line ≡ Ok (Entry e)))

pub FollowedLogsAreCommits-holds : FollowedLogsAreCommits
FollowedLogsAreCommits-holds start none each logs last text followed =
    let M = IsOnALine logs in
    let v = followed.taken in
    let taken = calls_of_logs M each logs start v followed.batches
    (λ p h. absurd (Contains-nil p (subst (λ (ls : List Placed). Contains ls p) none h)))
    (λ log h line k e is. (log, h, (line, k, is))) followed.lines in
    let ended = call_if M v.is_open v last followed.ended.batch taken.batch
    followed.ended.ended in
    let all = calls_after M (executor_of start) v last followed.batches
    followed.ended.batch taken ended in
    (all.calls, all.commits, all.from, all.texts)
