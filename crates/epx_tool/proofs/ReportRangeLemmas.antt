-- The numbers and texts of a report of accepted logs are within their limits.
use Rattle.std.proofs.Common.{◌≡◌, ℕ, suc, ◌≤◌, ◌++◌, cond, T, ℤ, w64, List, [], ◌∷◌, length, zip}
use Rattle.std.proofs.Common.{Contains, IsUtf8, Option, Some, None, Result, Ok, Err, inl, inr, ap}
use Rattle.std.proofs.Common.{◌∙◌, subst, arith, FitsSigned}
use Rattle.epx_types.proofs.Common.{AllByRecursion, is_eq, is_sorted, length-map}
use Rattle.epx_types.proofs.Common.{All-from_recursion, count_by-le-length, id_cmp, FitsKey}
use Rattle.epx_types.proofs.Common.{key_cmp, Contents, Instance, Placed, ids_of, instance_of}
use Rattle.epx_types.proofs.Common.{ops_or_empty, IsCommitted, commands_in, DependsOn, IsPath}
use Rattle.epx_types.proofs.Common.{Reaches, remaining, Ranked, ranked_ids, Waiting, waiting_ids}
use Rattle.epx_types.proofs.Common.{Contains-remaining_iff, DependsOn-remaining, remaining-from_map}
use Rattle.epx_types.proofs.Common.{IsExecutionOrder-IsLawful, key_cmp-IsTotalOrder, Contains-nil}
use Rattle.epx_types.proofs.Common.{Contains-head, Contains-cons, Contains-cons_cases}
use Rattle.epx_types.proofs.Common.{Contains-from_map, Contains-from_flat_map}
use Rattle.epx_types.proofs.Common.{AllPairs-rising_distinct}
use Rattle.epx_types.proofs.Common.{eq_by_cmp-same_key, find-below_all, and-first, and-second}
use Rattle.epx_types.proofs.Common.{max_instances}
use Rattle.epx_types.proofs.Common.{length-remaining, length-at_most, IsExecutionOrder-length}
use Rattle.epx_types.specs.declared.id.Id.{Id}
use Rattle.epx_types.specs.declared.reply.Reply.{Reply}
use Rattle.epx_types.specs.declared.place.Place.{Place}
use Rattle.epx_types.specs.declared.fault.Why.{Why}
use Rattle.std.specs.Cmp.{tied_itself}
use Rattle.std.specs.FinMap as contents
use Rattle.std.specs.FinMap.{find}
use Rattle.epx_lines.specs.Lines.{lines_of}
use Rattle.epx_lines.specs.Meaning.{meaning_of}
use Rattle.epx_lines.specs.declared.Line.{Line}
use Rattle.epx_lines.specs.declared.Line.TheVariants.{Blank, Entry}
use Rattle.epx_merge.specs.LogLines.{MeaningAt, meanings_in, meanings_from, meanings_of, placed_at}
use Rattle.epx_merge.specs.Acceptance.{IsAccepted}
use Rattle.epx_report.specs.ReportReadings.{FitsNumbers, FitsReply, FitsReportData}
use Rattle.epx_report.proofs.JsonStringLemmas.{cond-cases}
use Rattle.epx_report.proofs.LineRangeLemmas.{IsStoreKey, FitsCommand, FitsInstance, IfEntry}
use Rattle.epx_report.proofs.LineRangeLemmas.{IfEntry-meaning_of, AllByRecursion-contains}
use Rattle.epx_report.proofs.BaseRangeLemmas.{FitsBase}
use Rattle.epx_report.proofs.ExecutionRangeLemmas.{FitsExecution-execute}
use Rattle.epx_tool.specs.ResumedReport.{IsReportAfter}
use Rattle.epx_tool.specs.ReportedRuns.{reported_of, run_in}
use Rattle.epx_tool.proofs.ReportBaseLemmas.{length-written}

pub AllByRecursion-each : {A : Type 0} (P : A → Type 0) (xs : List A)
    → ((x : A) → Contains xs x → P x) → AllByRecursion P xs
AllByRecursion-each P [] h = tt
AllByRecursion-each P (x ∷ xs) h =
    (h x (Contains-head x xs), AllByRecursion-each P xs (λ y c. h y (Contains-cons x xs y c)))

-- ---- the instances of accepted logs

-- the instance of a line, if it has one, is within the limits
CommitsFitting : MeaningAt → Type 0
CommitsFitting l = (p : Placed) → Contains (placed_at l.place l.meaning) p
    → FitsInstance p.instance

placed_fits : (place : Place) (r : Result Line Why) → IfEntry r → (p : Placed)
    → Contains (placed_at place r) p → FitsInstance p.instance
placed_fits place (Ok Blank) h p c = absurd (Contains-nil p c)
placed_fits place (Ok (Entry e)) h p c =
    elim (Contains-cons_cases (record { place = place; instance = e }) [] p c) [
      | inl same ↦ subst (λ (q : Placed). FitsInstance q.instance) same h
      | inr none ↦ absurd (Contains-nil p none)
    ]
placed_fits place (Err why) h p c = absurd (Contains-nil p c)

lines_fit : (log n : ℕ) (ls : List (List ℕ))
    → AllByRecursion CommitsFitting (meanings_in log n ls)
unfolding CommitsFitting
lines_fit log n [] = tt
lines_fit log n (l ∷ ls) =
    let place : Place = record { log = log; line = n } in
    (placed_fits place (meaning_of l) (IfEntry-meaning_of l), lines_fit log (suc n) ls)

append_fits : (xs ys : List MeaningAt) → AllByRecursion CommitsFitting xs
    → AllByRecursion CommitsFitting ys → AllByRecursion CommitsFitting (xs ++ ys)
append_fits [] ys h k = k
append_fits (x ∷ xs) ys h k = (h.0, append_fits xs ys h.1 k)

logs_fit : (n : ℕ) (logs : List (List ℕ)) → AllByRecursion CommitsFitting (meanings_from n logs)
logs_fit n [] = tt
logs_fit n (log ∷ logs) =
    append_fits (meanings_in n 1 (lines_of log)) (meanings_from (suc n) logs)
    (lines_fit n 1 (lines_of log)) (logs_fit (suc n) logs)

pub FitsInstance-accepted : (logs : List (List ℕ)) (m : List Instance) → IsAccepted logs m
    → (e : Instance) → Contains m e → FitsInstance e
unfolding CommitsFitting
FitsInstance-accepted logs m accepted e c =
    let p = accepted.committed.given e c in
    let placed = λ (l : MeaningAt). placed_at l.place l.meaning in
    let l = Contains-from_flat_map placed (meanings_of logs) p.0 p.1 in
    let fits =
    AllByRecursion-contains CommitsFitting (meanings_of logs) l.0 (logs_fit 0 logs) l.1 in
    subst FitsInstance p.2 (fits p.0 l.2)

-- ---- the entries of contents

IsStoredPair : List ℕ × ℤ → Type 0
IsStoredPair p = FitsKey p.0 × IsUtf8 p.0 × FitsSigned w64 p.1

found_later : (q : List ℕ) (v : ℤ) (e : List ℕ × ℤ) (es : List (List ℕ × ℤ))
    → T (is_sorted key_cmp (e ∷ es)) → find key_cmp q es ≡ Some v
    → find key_cmp q (e ∷ es) ≡ Some v
found_later q v e es rises is =
    let lower = find-below_all e.0 es (and-first _ _ rises) in
    cond-cases (λ (o : Option ℤ). o ≡ Some v) (is_eq (key_cmp q e.0)) (Some e.1) (find key_cmp q es)
    (λ tied.
    let none : find key_cmp q es ≡ None =
    ap (λ k. find key_cmp k es) (eq_by_cmp-same_key q e.0 tied) ∙ lower in
    absurd (cc (none, is)))
    (λ _. is)

entries_fit : (es : List (List ℕ × ℤ)) → T (is_sorted key_cmp es)
    → ((k : List ℕ) (v : ℤ) → find key_cmp k es ≡ Some v → IsStoreKey k × FitsSigned w64 v)
    → AllByRecursion IsStoredPair es
unfolding IsStoredPair
entries_fit [] rises h = tt
entries_fit (e ∷ es) rises h =
    let here : find key_cmp e.0 (e ∷ es) ≡ Some e.1 =
    ap (λ o. cond (is_eq o) (Some e.1) (find key_cmp e.0 es))
    (tied_itself key_cmp-IsTotalOrder e.0) in
    let fits = h e.0 e.1 here in (
      (fits.0.0, fits.0.1, fits.1),
      entries_fit es (and-second _ _ rises) (λ k v is. h k v (found_later k v e es rises is)),
    )

-- ---- the report

FitsReplied : Id × Reply → Type 0
FitsReplied p = FitsNumbers p.0 × FitsReply p.1

zip_fits : (ids : List Id) (replies : List Reply) → AllByRecursion FitsNumbers ids
    → AllByRecursion FitsReply replies → AllByRecursion FitsReplied (zip ids replies)
unfolding FitsReplied
zip_fits [] replies h k = tt
zip_fits (x ∷ ids) [] h k = tt
zip_fits (x ∷ ids) (r ∷ replies) h k = ((h.0, k.0), zip_fits ids replies h.1 k.1)

CommandFits : Instance → Type 0
CommandFits e = FitsCommand e.ops

ops_fit : (l : List Instance) → AllByRecursion CommandFits l → (x : Id)
    → FitsCommand (ops_or_empty (instance_of l x))
unfolding CommandFits
ops_fit [] h x = record { each = tt; few = omega arith }
ops_fit (e ∷ l) h x =
    cond-cases (λ (o : Option Instance). FitsCommand (ops_or_empty o)) (is_eq (id_cmp e.id x))
    (Some e)
    (instance_of l x) (λ _. h.0) (λ _. ops_fit l h.1 x)

pub FitsCommand-instance_of : (m : List Instance) → ((e : Instance) → Contains m e → FitsInstance e)
    → (x : Id) → FitsCommand (ops_or_empty (instance_of m x))
unfolding CommandFits
FitsCommand-instance_of m fits =
    ops_fit m (AllByRecursion-each CommandFits m (λ e c. (fits e c).command))

commands_fit : (l : List Instance) → AllByRecursion CommandFits l → (order : List Ranked)
    → AllByRecursion FitsCommand (commands_in l (ranked_ids order))
commands_fit l h [] = tt
commands_fit l h (r ∷ order) = (ops_fit l h r.id, commands_fit l h order)

FitsWaiting : Waiting → Type 0
FitsWaiting w = FitsNumbers w.id × FitsNumbers w.missing

module _ (done : List Id) (stored : Contents) (m : List Instance) (text : List ℕ)
    (p : IsReportAfter done stored m text) (fits : (e : Instance) → Contains m e → FitsInstance e)
    (base : FitsBase done stored) where
  abbrev left : List Instance
  left = remaining done m

  committed_fits : (x : Id) → IsCommitted left x → FitsNumbers x
  committed_fits x c =
      let among = (Contains-remaining_iff done m x).0 c in
      let e = Contains-from_map (λ (e : Instance). e.id) m x among.0 in
      subst FitsNumbers e.2 (fits e.0 e.1).id

  needed_fits : (x y : Id) → DependsOn left x y → FitsNumbers y
  needed_fits x y d = let e = ((DependsOn-remaining done m x y).0 d).0 in (fits e.0 e.1).deps y e.3

  path_fits : (x : Id) (via : List Id) (y : Id) → IsPath left x via y → FitsNumbers y
  path_fits x [] y d = needed_fits x y d
  path_fits x (z ∷ via) y d = path_fits z via y d.1

  reached_fits : (x y : Id) → IsCommitted left x → Reaches left x y → FitsNumbers y
  reached_fits x y c (inl same) = subst FitsNumbers same (committed_fits x c)
  reached_fits x y c (inr there) = path_fits x there.0 y there.1

  left_fits : AllByRecursion CommandFits left
  unfolding CommandFits
  left_fits = AllByRecursion-each CommandFits left (λ e c.
      let d = remaining-from_map done m e c in
      subst (λ (e : Instance). FitsCommand e.ops) d.3 (fits d.0 d.1).command)

  ids_fit : AllByRecursion FitsNumbers (ranked_ids p.order)
  ids_fit =
      let lawful = IsExecutionOrder-IsLawful left p.order p.ordered in
      AllByRecursion-each FitsNumbers (ranked_ids p.order)
      (λ x c. committed_fits x (lawful.only x c).committed)

  waiting_fits : AllByRecursion FitsWaiting p.waiting
  unfolding FitsWaiting
  waiting_fits = AllByRecursion-each FitsWaiting p.waiting (λ w c.
      let waits = p.listed.waits w c in (
        committed_fits w.id waits.committed,
        reached_fits w.id w.missing waits.committed waits.reached,
      ))

  waiting_are_few : length p.waiting ≤ length left
  waiting_are_few =
      let ids = waiting_ids p.waiting in
      let within : (x : Id) → Contains ids x → Contains (ids_of left) x = λ x c.
      let w = Contains-from_map (λ (w : Waiting). w.id) p.waiting x c in
      subst (Contains (ids_of left)) w.2 (p.listed.waits w.0 w.1).committed in
      let few =
      length-at_most ids (ids_of left) (AllPairs-rising_distinct ids p.listed.rising) within in
      let waiting = length-map p.waiting (λ (w : Waiting). w.id) in
      omega (arith, few, waiting, length-map left (λ (e : Instance). e.id))

  pub FitsReportData-reported : length m ≤ max_instances
      → FitsReportData (reported_of done p.order p.waiting (run_in done stored m text p))
  unfolding IsStoredPair FitsReplied FitsWaiting
  FitsReportData-reported few =
      let commands = commands_fit left left_fits p.order in
      let run = FitsExecution-execute (commands_in left (ranked_ids p.order)) stored commands
      base.stored in
      let final = (run_in done stored m text p).final in
      let many = length-written done stored m text p in
      let fewer_left = length-remaining done m in
      let ordered = IsExecutionOrder-length left p.order p.ordered in
      let leads = λ (r : Ranked). is_eq (id_cmp r.id r.leader) in
      let components = count_by-le-length leads p.order in
      let waiting = waiting_are_few in
      let stored_fits =
      entries_fit (contents.entries final) (contents.entries_sorted final)
      (λ k v is. run.final k v (contents.get-entries final k ∙ is)) in
      record {
        replies_counted = omega (arith, many, fewer_left, ordered, few);
        waiting_counted = omega (arith, fewer_left, waiting, few);
        few_components = omega (arith, many, components);
        done_fit =
            All-from_recursion FitsNumbers done (AllByRecursion-each FitsNumbers done base.done);
        replies_fit = All-from_recursion FitsReplied _
            (zip_fits (ranked_ids p.order) _ ids_fit run.replies);
        waiting_fit = All-from_recursion FitsWaiting p.waiting waiting_fits;
        stored_fit = All-from_recursion IsStoredPair (contents.entries final) stored_fits;
      }
