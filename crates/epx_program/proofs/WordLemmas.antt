-- What the words ask for, from the words of the operating system.
use Rattle.std.proofs.Common.{◌≡◌, ◌≢◌, ◌↔◌, ◌⊎◌, ◌++◌, ◌∙◌, ℕ, Bool, true, false, inl, inr, zero}
use Rattle.std.proofs.Common.{suc, List, [], ◌∷◌, length, map, Option, Some, None, Result, Ok, Err}
use Rattle.std.proofs.Common.{IfOk, codes, sym, ap, refl, subst, append-nil, arith}
use Rattle.epx_types.proofs.Common.{string_bytes, Appends, Global}
use Rattle.std.specs.declared.io.Error.{Error}
use Rattle.std.specs.declared.string.String.{String}
use Rattle.std.specs.declared.vec.IntoIter.{IntoIter}
use Rattle.clap.specs.Words.{Kinds, Text, fault_of, subcommand_of, takes}
use Rattle.epx_types.specs.declared.memory.Memory.{Memory}
use Rattle.epx_devices.specs.Transfers.{AppendsPrefix}
use Rattle.epx_words.specs.App.{epx_app}
use Rattle.epx_words.specs.Requests.{ArePathsOf, AsksFor, AsksToFollow, FitFlags, FitsRows}
use Rattle.epx_words.specs.Requests.{IfFollow, IfText, IfWork, IsBare, IsWork, flags_of}
use Rattle.epx_words.specs.Requests.{task_name}
use Rattle.epx_words.specs.ExitStatus.{IsTaken, IsTextStatus}
use Rattle.epx_words.specs.Subjects.{NamesAll}
use Rattle.epx_words.specs.SubcommandRows.{Given, IsCutOf, IsWorkersOf, name_in, rows_in}
use Rattle.epx_names.specs.declared.task.Task.TheVariants.{Run}
use Rattle.epx_words.specs.declared.words.Words.{Words}
use Rattle.epx_words.specs.declared.words.Words.TheVariants.{Work, WorkWith, Follow, Text as text}
use Rattle.epx_program.specs.Calls.{AreTakenFor, Asks, EndsAsAsked, EndsTask, EndsWithText}
use Rattle.epx_program.specs.Calls.{IsFollow, NamesFollow}
use Rattle.epx_program.specs.FollowEndings.{EndsFollow}
use Rattle.epx_program.specs.Inputs.{TextRelation}
use Rattle.epx_program.specs.Saving.{SaveRelation}
use Rattle.epx_program.proofs.BareWordLemmas.{IsBare-decides}
use Rattle.epx_program.proofs.OutputLemmas.{Keeps-contents}

-- words are taken for only one list of texts
pub AreTakenFor-is_unique : (words : Result (IntoIter (String Global) Global) Error)
    (texts others : List Text) → AreTakenFor words texts → AreTakenFor words others
    → texts ≡ others
AreTakenFor-is_unique (Ok given) texts others these those = sym these ∙ those
AreTakenFor-is_unique (Err why) texts others these those = absurd these

no_items : {A : Type 0} (xs : List A) → length xs ≡ 0 → xs ≡ []
no_items [] none = refl
no_items (x ∷ xs) none = absurd (omega arith)

all_taken : {A B : Type 0} (f : A → B) (came : List B) (rest : List A) → length rest ≡ 0
    → came ++ map f rest ≡ came
all_taken f came rest none = ap (λ xs. came ++ map f xs) (no_items rest none) ∙ append-nil came

-- if no word is left to read, the words read so far are all words
pub AreTakenFor-at_end : (words : Result (IntoIter (String Global) Global) Error)
    (texts : List Text)
    (came rest : List (String Global))
    → AreTakenFor words (map string_bytes came ++ map string_bytes rest) → length rest ≡ 0
    → texts ≡ map string_bytes came → AreTakenFor words texts
AreTakenFor-at_end words texts came rest taken none same = subst (AreTakenFor words)
    (all_taken string_bytes (map string_bytes came) rest none ∙ sym same) taken

module _ (words : List Text) where
  abbrev given : Given
  given = subcommand_of epx_app words

  abbrev kinds : Kinds
  kinds = fault_of epx_app words

  work_fits : (asked : Words) → IfWork (λ task plan paths. name_in given ≡ Some (task_name task))
      asked
      → IfWork (λ task plan paths. IsWorkersOf (rows_in given) plan.workers) asked
      → IfWork (λ task plan paths. IsCutOf (rows_in given) plan.cut) asked
      → IfWork (λ task plan paths. ArePathsOf task (rows_in given) paths) asked
      → IfWork (λ task plan paths. FitsRows task (rows_in given)) asked
      → IfWork (AsksFor given) asked
  work_fits (Work task plan paths) is_task is_workers is_cut are_paths are_parts = record {
    task = is_task;
    workers = is_workers;
    cut = is_cut;
    paths = are_paths;
    parts = are_parts;
  }
  work_fits (WorkWith task plan paths flags) is_task is_workers is_cut are_paths are_parts =
      record {
        task = is_task;
        workers = is_workers;
        cut = is_cut;
        paths = are_paths;
        parts = are_parts;
      }
  work_fits (Follow plan paths options) is_task is_workers is_cut are_paths are_parts = tt
  work_fits (text said status) is_task is_workers is_cut are_paths are_parts = tt

  text_ends : (asked : Words)
      → IfText (λ status. (takes epx_app words ≡ false) ⊎ (¬ NamesAll given)) asked
      → IfText (IsTextStatus kinds given) asked
      → IfText (λ status. ((takes epx_app words ≡ false) ⊎ (¬ NamesAll given))
      × IsTextStatus kinds given status) asked
  text_ends (Work task plan paths) refused ends = tt
  text_ends (WorkWith task plan paths flags) refused ends = tt
  text_ends (Follow plan paths options) refused ends = tt
  text_ends (text said status) refused ends = (refused, ends)

  -- what is read of the words is what they ask for
  pub IfOk-asks : (read : Result Words Memory)
      → (IsBare words → IfOk read
      (λ asked. asked ≡ Work Run (record { workers = 4; cut = 256 }) None))
      → (¬ IsBare words → IfOk read
      (IfWork (λ task plan paths. name_in given ≡ Some (task_name task))))
      → (¬ IsBare words → IfOk read
      (IfWork (λ task plan paths. IsWorkersOf (rows_in given) plan.workers)))
      → (¬ IsBare words → IfOk read
      (IfWork (λ task plan paths. IsCutOf (rows_in given) plan.cut)))
      → (¬ IsBare words → IfOk read
      (IfWork (λ task plan paths. ArePathsOf task (rows_in given) paths)))
      → (¬ IsBare words → IfOk read
      (IfWork (λ task plan paths. FitsRows task (rows_in given))))
      → (¬ IsBare words → IfOk read (IfFollow (AsksToFollow given)))
      → (¬ IsBare words → IfOk read
      (λ asked. IsWork asked → FitFlags (flags_of asked) (rows_in given)))
      → (¬ IsBare words → IfOk read (λ asked. IsWork asked ↔ IsTaken kinds given))
      → (¬ IsBare words → IfOk read
      (IfText (λ status. (takes epx_app words ≡ false) ⊎ (¬ NamesAll given))))
      → (¬ IsBare words → IfOk read (IfText (IsTextStatus kinds given)))
      → IfOk read (Asks words)
  IfOk-asks (Ok asked) bare is_task is_workers is_cut are_paths are_parts followed flags taken
      refused
      ends =
      record {
        bare = bare;
        work = λ named. work_fits asked (is_task named) (is_workers named) (is_cut named)
            (are_paths named) (are_parts named);
        follow = followed;
        flags = flags;
        taken = taken;
        text = λ named. text_ends asked (refused named) (ends named);
      }
  IfOk-asks (Err memory) bare is_task is_workers is_cut are_paths are_parts followed flags taken
      refused
      ends = tt

  name_of_follow : (asked : Words) → IfFollow (AsksToFollow given) asked → IsFollow asked
      → name_in given ≡ Some (codes "follow")
  name_of_follow (Work task plan paths) asks follow = absurd follow
  name_of_follow (WorkWith task plan paths flags) asks follow = absurd follow
  name_of_follow (Follow plan paths options) asks follow = asks.name
  name_of_follow (text said status) asks follow = absurd follow

  -- words that ask to follow logs name the subcommand
  pub IfOk-names_follow : (args : Result (IntoIter (String Global) Global) Error)
      → AreTakenFor args words → (read : Result Words Memory)
      → (IsBare words → IfOk read
      (λ asked. asked ≡ Work Run (record { workers = 4; cut = 256 }) None))
      → (¬ IsBare words → IfOk read (IfFollow (AsksToFollow given)))
      → IfOk read (λ asked. IsFollow asked → NamesFollow args)
  IfOk-names_follow args taken (Err memory) bare named = tt
  IfOk-names_follow args taken (Ok asked) bare named = elim (IsBare-decides words) [
    | inl is ↦ λ follow. absurd (subst IsFollow (bare is) follow)
    | inr not ↦ λ follow. (words, taken, name_of_follow asked (named not) follow)
  ]

module _ {S : Type 0} (contents : S → Option (List ℕ)) (before after : S)
    (input : Option (List ℕ)) (Unread : Type 0) (Is : TextRelation) (Saving : SaveRelation)
    (status : ℕ) (failed : Bool) where
  ends_with_text : (said : List ℕ) (n : ℕ)
      → (n ≡ 0 → status ≡ 0 → Appends (contents before) (contents after) said)
      → (n ≡ 0 → AppendsPrefix (contents before) (contents after) said)
      → (n ≡ 0 → (status ≡ 0) ⊎ ((status ≡ 4) × (failed ≡ true)))
      → (n ≢ 0 → (status ≡ n) × (after ≡ before))
      → EndsWithText said n status failed (contents before) (contents after)
  ends_with_text said zero shown prefix well refused = go (well refl)
    where
      go : (status ≡ 0) ⊎ ((status ≡ 4) × (failed ≡ true))
          → EndsWithText said 0 status failed (contents before) (contents after)
      go (inl done) = inl (done, shown refl done)
      go (inr bad) = inr (bad.0, bad.1, prefix refl)
  ends_with_text said (suc n) shown prefix well refused =
      let ends = refused (λ none. omega (arith, none)) in
      (ends.0, Keeps-contents contents before after ends.1)

  -- how the program ends with what is wanted, from the contracts of the calls that do it
  pub EndsAsAsked-cases : (wanted : Words)
      → IfWork (λ task plan paths. EndsTask input Unread Is (flags_of wanted).exit_code task paths
      status failed (contents before) (contents after)) wanted
      → IfFollow (λ plan paths options. EndsFollow Is Saving options paths status failed
      (contents before) (contents after)) wanted
      → ((said : String Global) → wanted ≡ text said 0 → status ≡ 0
      → Appends (contents before) (contents after) (string_bytes said))
      → ((said : String Global) → wanted ≡ text said 0
      → AppendsPrefix (contents before) (contents after) (string_bytes said))
      → IfText (λ n. n ≡ 0 → (status ≡ 0) ⊎ ((status ≡ 4) × (failed ≡ true))) wanted
      → IfText (λ n. n ≢ 0 → (status ≡ n) × (after ≡ before)) wanted
      → EndsAsAsked input Unread Is Saving wanted status failed (contents before) (contents after)
  EndsAsAsked-cases (Work task plan paths) work follow shown prefix well refused = work
  EndsAsAsked-cases (WorkWith task plan paths flags) work follow shown prefix well refused = work
  EndsAsAsked-cases (Follow plan paths options) work follow shown prefix well refused = follow
  EndsAsAsked-cases (text said n) work follow shown prefix well refused =
      ends_with_text (string_bytes said) n (λ none. shown said (ap (text said) none))
      (λ none. prefix said (ap (text said) none)) well refused
