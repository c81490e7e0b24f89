-- Followers whose executors hold the same follow logs alike.
use mathlib.Core.Path.{fun_ext}
use Rattle.std.proofs.Common.{◌≡◌, ◌∙◌, ℕ, Bool, true, false, not, List, [], ◌∷◌, ◌++◌}
use Rattle.std.proofs.Common.{Contains, Result, Ok, Err, if◌then◌else◌, filter, flat_map, length}
use Rattle.std.proofs.Common.{map}
use Rattle.std.proofs.Common.{refl, sym, ap, ap₂, inl, inr, subst, subst₂}
use Rattle.std.specs.FinMap as contents
use Rattle.epx_types.proofs.Common.{Contains-from_map, Contains-map, Contains-nil, Contents}
use Rattle.epx_types.proofs.Common.{IsCommittedBy, Instance, Placed, Waiting, IsWaitingList}
use Rattle.epx_types.proofs.Common.{ids_of, is_among, is_among-cases, length-map, map-append}
use Rattle.epx_types.proofs.Common.{remaining}
use Rattle.epx_types.specs.declared.fault.Why.{Why}
use Rattle.epx_types.specs.declared.id.Id.{Id}
use Rattle.epx_laws.specs.AgreementLaws.{CommittedMapIsUnique}
use Rattle.epx_laws.specs.ReachingLaws.{WaitingListIsUnique}
use Rattle.epx_lines.specs.Lines.{lines_of}
use Rattle.epx_lines.specs.Meaning.{is_blank, meaning_of}
use Rattle.epx_lines.specs.declared.Line.{Line}
use Rattle.epx_lines.specs.declared.Line.TheVariants.{Blank, Entry}
use Rattle.epx_report.specs.ReportLines.{store_line, waiting_line}
use Rattle.epx_executor.specs.CallLines.{call_lines, lines_from}
use Rattle.epx_executor.specs.Commits.{IsCommit}
use Rattle.epx_executor.specs.ExecutorLaws.{HoldTheSame, SameExecutorsCommitAlike}
use Rattle.epx_follow.specs.BatchEnds.{EndsBatch, batch_text, count_new}
use Rattle.epx_follow.specs.FollowerLaws.{SameFollowersFollowAlike, executor_of}
use Rattle.epx_follow.specs.Following.{FollowerView, at_next_log, instances_of, joined, passed}
use Rattle.epx_follow.specs.InputEnds.{EndsInput, IsFollowed, IsRest}
use Rattle.epx_follow.specs.LinesTaken.{EndsIf, TakesAs}
use Rattle.epx_follow.specs.LogsTaken.{TakesLines, TakesLogs}
use Rattle.epx_follow.proofs.BatchEndLemmas.{BatchIsACommit-holds}
use Rattle.epx_follow.proofs.HoldLemmas.{Contains-joined}

-- ---- executors that hold the same

-- an instance without the dependencies that pass a test
abbrev without : (Id → Bool) → Instance → Instance
without test e = record e { deps = filter (λ x. not (test x)) e.deps }

module _ (v w : FollowerView) (same : HoldTheSame (executor_of v) (executor_of w)) where
  among : (x : Id) → is_among v.done x ≡ is_among w.done x
  among x = elim (is_among-cases v.done x) [
    | inl found ↦ elim (is_among-cases w.done x) [
      | inl there ↦ found.0 ∙ sym there.0
      | inr none ↦ absurd (none.1 ((same.done x).0 found.1))
    ]
    | inr left ↦ elim (is_among-cases w.done x) [
      | inl there ↦ absurd (left.1 ((same.done x).1 there.1))
      | inr none ↦ left.0 ∙ sym none.0
    ]
  ]

  same_test : is_among v.done ≡ is_among w.done
  same_test = fun_ext among

  same_lines : (came : List Instance)
      → call_lines v.done (instances_of v.pending) came
      ≡ call_lines w.done (instances_of w.pending) came
  same_lines came = ap₂ (λ (es : List Instance) (test : Id → Bool). lines_from 0 1 es
      ++ filter (λ p. not (test p.instance.id)) (lines_from 1 1 came)) same.pending same_test

  same_remaining : remaining v.done (instances_of v.pending)
      ≡ remaining w.done (instances_of w.pending)
  same_remaining = ap₂ (λ (es : List Instance) (test : Id → Bool).
      map (without test) (filter (λ e. not (test e.id)) es)) same.pending same_test

  same_count : length v.pending ≡ length w.pending
  same_count = sym (length-map v.pending (λ (p : Placed). p.instance)) ∙ ap length same.pending
      ∙ length-map w.pending (λ (p : Placed). p.instance)

  same_new : (m n : List Instance) → m ≡ n → count_new v m ≡ count_new w n
  same_new m n is = ap₂ (λ (es ds : List Instance).
      length (filter (λ e. not (is_among (ids_of es) e.id)) ds)) same.pending is

  same_rest : WaitingListIsUnique → (text other : List ℕ) → IsRest v text → IsRest w other
      → text ≡ other
  same_rest list_is_unique text other h k =
      let waiting : h.waiting ≡ k.waiting =
      list_is_unique (remaining w.done (instances_of w.pending)) h.waiting k.waiting
      (subst (λ (m : List Instance). IsWaitingList m h.waiting) same_remaining h.listed)
      k.listed in
      h.printed ∙ ap₂ (λ (ws : List Waiting) (c : Contents).
      flat_map waiting_line ws ++ flat_map store_line (contents.entries c)) waiting same.store
      ∙ sym k.printed

-- ---- followers that are alike

-- their executors and their batches hold the same instances
pub record AreAlike (v w : FollowerView) : Type 0 where
  pub executors : HoldTheSame (executor_of v) (executor_of w)
  pub batch : instances_of v.batch ≡ instances_of w.batch
  pub is_open : v.is_open ≡ w.is_open
  pub left : (p : Placed) → Contains v.batch p → ¬ Contains v.done p.instance.id

-- no instance of the other batch is executed either
other_left : (v w : FollowerView) → AreAlike v w → (p : Placed) → Contains w.batch p
    → ¬ Contains w.done p.instance.id
other_left v w a p h done =
    let there = subst (λ (es : List Instance). Contains es p.instance) (sym a.batch)
    (Contains-map (λ (q : Placed). q.instance) w.batch p h) in
    let q = Contains-from_map (λ (r : Placed). r.instance) v.batch p.instance there in
    a.left q.0 q.1 (subst (λ (e : Instance). Contains v.done e.id) (sym q.2)
    ((a.executors.done p.instance.id).1 done))

-- ---- lines

alike_passed : (v w : FollowerView) → AreAlike v w → AreAlike (passed v) (passed w)
alike_passed v w a =
    record { executors = a.executors; batch = a.batch; is_open = refl; left = a.left }

alike_next_log : (v w : FollowerView) → AreAlike v w → AreAlike (at_next_log v) (at_next_log w)
alike_next_log v w a =
    record { executors = a.executors; batch = a.batch; is_open = a.is_open; left = a.left }

-- the instances of a batch that one more joins, unless it is executed
abbrev with_instance : Instance → Bool → List Instance → List Instance
with_instance e executed es = if executed then es else es ++ e ∷ []

instances-joined : (v : FollowerView) (e : Instance) → instances_of (joined v e).batch
    ≡ with_instance e (is_among v.done e.id) (instances_of v.batch)
instances-joined v e = elim (is_among-cases v.done e.id) [
  | inl executed ↦ let among = executed.0 in rw among refl
  | inr left ↦
      let other = left.0 in
      rw other (map-append (λ (p : Placed). p.instance) v.batch
      (record { place = v.next; instance = e } ∷ []))
]

alike_joined : (v w : FollowerView) (e : Instance) → AreAlike v w
    → AreAlike (joined v e) (joined w e)
alike_joined v w e a = record {
  executors = a.executors;
  batch = instances-joined v e
      ∙ ap₂ (with_instance e) (among v w a.executors e.id) a.batch
      ∙ sym (instances-joined w e);
  is_open = refl;
  left = Contains-joined (λ p. ¬ Contains v.done p.instance.id) v e a.left (λ new. new);
}

-- ---- batches

module _ (map_is_unique : CommittedMapIsUnique) (list_is_unique : WaitingListIsUnique)
    (commit_alike : SameExecutorsCommitAlike) where
  -- they write the same text, and are alike again
  abbrev pub Follow : FollowerView → FollowerView → List ℕ → List ℕ → Type 0
  Follow v w text other = (text ≡ other) × AreAlike v w

  batch_alike : (v w next last : FollowerView) (text other : List ℕ) → AreAlike v w
      → EndsBatch v next text → EndsBatch w last other → Follow next last text other
  batch_alike v w next last text other a ends others =
      let came = instances_of v.batch in
      let first = BatchIsACommit-holds v next text a.left ends in
      let second = BatchIsACommit-holds w last other (other_left v w a) others in
      let commits : IsCommit (executor_of w) came (executor_of last) second.0 =
      subst (λ (es : List Instance). IsCommit (executor_of w) es (executor_of last) second.0)
      (sym a.batch) second.1 in
      let alike = commit_alike (executor_of v) (executor_of w) a.executors came
      (executor_of next) (executor_of last) first.0 second.0 first.1 commits in
      let lines = same_lines v w a.executors came
      ∙ ap (call_lines w.done (instances_of w.pending)) a.batch in
      let same_map : first.1.other ≡ second.1.other =
      map_is_unique (call_lines w.done (instances_of w.pending) (instances_of w.batch))
      first.1.other second.1.other
      (subst (λ (ls : List Placed). IsCommittedBy ls first.1.other) lines
      first.1.merged.committed) second.1.merged.committed in
      let count = same_new v w a.executors first.1.other second.1.other same_map in
      let waiting = same_count next last alike.1 in (
        first.2 ∙ ap₂ (λ (n k : ℕ). batch_text n k first.0) count waiting
            ∙ ap (batch_text (count_new w second.1.other) (length last.pending)) alike.0
            ∙ sym second.2,
        record {
          executors = alike.1;
          batch = ap instances_of ends.closed.0 ∙ sym (ap instances_of others.closed.0);
          is_open = ends.closed.1 ∙ sym others.closed.1;
          left = λ p h. absurd (Contains-nil p
              (subst (λ (ls : List Placed). Contains ls p) ends.closed.0 h));
        },
      )

  alike_if : (ends : Bool) (v w next last : FollowerView) (text other : List ℕ) → AreAlike v w
      → EndsIf ends v next text → EndsIf ends w last other → Follow next last text other
  alike_if true v w next last text other a h k = batch_alike v w next last text other a h k
  alike_if false v w next last text other a h k =
      (h.1 ∙ sym k.1, subst₂ AreAlike (sym h.0) (sym k.0) a)

  alike_as : (each blank : Bool) (m : Result Line Why) (v w next last : FollowerView)
      (text other : List ℕ) → AreAlike v w → TakesAs each blank m v next text
      → TakesAs each blank m w last other → Follow next last text other
  alike_as each true m v w next last text other a h k =
      batch_alike (passed v) (passed w) next last text other (alike_passed v w a) h k
  alike_as each false (Ok Blank) v w next last text other a h k =
      alike_if each (passed v) (passed w) next last text other (alike_passed v w a) h k
  alike_as each false (Ok (Entry e)) v w next last text other a h k =
      alike_if each (joined v e) (joined w e) next last text other (alike_joined v w e a) h k
  alike_as each false (Err why) v w next last text other a h k = absurd h

  -- ---- lines and logs one after another

  alike_lines : (each : Bool) (lines : List (List ℕ)) (v w next last : FollowerView)
      (text other : List ℕ) → AreAlike v w → TakesLines each v lines next text
      → TakesLines each w lines last other → Follow next last text other
  alike_lines each [] v w next last text other a h k =
      (h.1 ∙ sym k.1, subst₂ AreAlike h.0 k.0 a)
  alike_lines each (line ∷ lines) v w next last text other a h k =
      let first = alike_as each (is_blank line) (meaning_of line) v w h.0 k.0 h.1 k.1 a h.3 k.3 in
      let rest = alike_lines each lines h.0 k.0 next last h.2 k.2 first.1 h.4 k.4 in
      (h.5 ∙ ap₂ (λ (xs ys : List ℕ). xs ++ ys) first.0 rest.0 ∙ sym k.5, rest.1)

  pub Follow-logs : (each : Bool) (logs : List (List ℕ)) (v w next last : FollowerView)
      (text other : List ℕ) → AreAlike v w → TakesLogs each v logs next text
      → TakesLogs each w logs last other → Follow next last text other
  Follow-logs each [] v w next last text other a h k =
      (h.1 ∙ sym k.1, subst₂ AreAlike h.0 k.0 a)
  Follow-logs each (log ∷ logs) v w next last text other a h k =
      let first = alike_lines each (lines_of log) v w h.0 k.0 h.1 k.1 a h.3 k.3 in
      let rest = Follow-logs each logs (at_next_log h.0) (at_next_log k.0) next last h.2 k.2
      (alike_next_log h.0 k.0 first.1) h.4 k.4 in
      (h.5 ∙ ap₂ (λ (xs ys : List ℕ). xs ++ ys) first.0 rest.0 ∙ sym k.5, rest.1)

  alike_input : (v w next last : FollowerView) (text other : List ℕ) → AreAlike v w
      → EndsInput v next text → EndsInput w last other → Follow next last text other
  alike_input v w next last text other a h k =
      let ends = alike_if v.is_open v w next last h.batch k.batch a h.ended
      (subst (λ (open_too : Bool). EndsIf open_too w last k.batch) (sym a.is_open) k.ended) in
      let rest = same_rest next last ends.1.executors list_is_unique h.rest k.rest h.left k.left in
      (h.printed ∙ ap₂ (λ (xs ys : List ℕ). xs ++ ys) ends.0 rest ∙ sym k.printed, ends.1)

  pub Follow-followed : (each : Bool) (logs : List (List ℕ)) (v w last other : FollowerView)
      (text same : List ℕ) → AreAlike v w → IsFollowed v each logs last text
      → IsFollowed w each logs other same → Follow last other text same
  Follow-followed each logs v w last other text same a h k =
      let taken = Follow-logs each logs v w h.taken k.taken h.batches k.batches a h.lines
      k.lines in
      let ended = alike_input h.taken k.taken last other h.rest k.rest taken.1 h.ended k.ended in (
        h.printed ∙ ap₂ (λ (xs ys : List ℕ). xs ++ ys) taken.0 ended.0 ∙ sym k.printed,
        ended.1,
      )

  -- ---- the law

  pub SameFollowersFollowAlike-holds : SameFollowersFollowAlike
  SameFollowersFollowAlike-holds v w closed shut same each logs last other text more h k =
      let alike : AreAlike v w = record {
        executors = same;
        batch = ap instances_of closed.0 ∙ sym (ap instances_of shut.0);
        is_open = closed.1 ∙ sym shut.1;
        left = λ p there. absurd (Contains-nil p
            (subst (λ (ls : List Placed). Contains ls p) closed.0 there));
      } in
      let followed = Follow-followed each logs v w last other text more alike h k in
      (followed.0, followed.1.executors)
