-- What an executor goes on from is a state or a report, and not both.
use Rattle.std.proofs.Common.{◌≡◌, ◌⊎◌, ◌↔◌, inl, inr, ℕ, Bool, true, false, IsTrue, List, [], ◌∷◌}
use Rattle.std.proofs.Common.{length, map, Contains, Option, Some, None, option_and_then, is_some}
use Rattle.std.proofs.Common.{refl, sym, ap, ◌∙◌, subst, if◌then◌else◌, nat_lt}
use Rattle.serde_json.specs.Data.{Data}
use Rattle.epx_types.proofs.Common.{Contains-nil, Contents}
use Rattle.epx_types.specs.declared.fault.Fault.{Fault}
use Rattle.epx_types.specs.declared.fault.Fault.TheVariants.{Memory}
use Rattle.epx_types.specs.declared.id.Id.{Id}
use Rattle.epx_types.specs.declared.reply.Reply.{Reply}
use Rattle.epx_committed.specs.MergedLines.{IsMergeFault}
use Rattle.epx_lines.specs.Elements.{elements}
use Rattle.epx_lines.specs.Lines.{lines_of}
use Rattle.epx_lines.specs.Meaning.{json_of, max_line_bytes}
use Rattle.epx_report.specs.Bases.{IsBase, lines_in_order}
use Rattle.epx_report.specs.Forms.{base_line_of, form_of, form_of_list}
use Rattle.epx_report.specs.declared.base.BaseFault.TheVariants as why
use Rattle.epx_report.proofs.BaseLemmas.{BaseSaysOneThing-holds}
use Rattle.epx_executor.specs.CallLines.{call_lines}
use Rattle.epx_executor.specs.Commits.{AllWait, ExecutorView, IsCommit}
use Rattle.epx_executor.specs.ExecutorLaws.{HoldTheSame, RestartedExecutorHoldsTheSame}
use Rattle.epx_state.specs.declared.forms.StateCounts.{StateCounts}
use Rattle.epx_state.specs.StateForms.{StateParts, counts_of_line, counts_of_list}
use Rattle.epx_state.specs.StateLaws.{StartedHoldTheSame}
use Rattle.epx_state.specs.Starts.{BeginsAsState, HoldsReport, IsReportFault}
use Rattle.epx_state.specs.Starts.{IsStartFault}
use Rattle.epx_state.specs.States.{IsState}
use Rattle.epx_state.proofs.RestoreLemmas.{IsMergeFault-is_memory}
use Rattle.epx_state.proofs.SectionLemmas.{RestoredHoldTheSame-holds}

-- ---- no line is of both kinds

-- a list that says counts has seven elements, and none of a report has so many
no_list_of_both : (ds : List Data) (c : StateCounts) → counts_of_list ds ≡ Some c
    → form_of_list ds ≡ None
no_list_of_both [] c h = absurd (cc h)
no_list_of_both (n ∷ []) c h = absurd (cc h)
no_list_of_both (n ∷ a ∷ []) c h = absurd (cc h)
no_list_of_both (n ∷ a ∷ r ∷ []) c h = absurd (cc h)
no_list_of_both (n ∷ a ∷ r ∷ b ∷ []) c h = absurd (cc h)
no_list_of_both (n ∷ a ∷ r ∷ b ∷ w ∷ []) c h = absurd (cc h)
no_list_of_both (n ∷ a ∷ r ∷ b ∷ w ∷ d ∷ []) c h = absurd (cc h)
no_list_of_both (n ∷ a ∷ r ∷ b ∷ w ∷ d ∷ s ∷ ds) c h = refl

no_elements_of_both : (o : Option (List Data)) (c : StateCounts)
    → option_and_then counts_of_list o ≡ Some c → option_and_then form_of_list o ≡ None
no_elements_of_both None c h = refl
no_elements_of_both (Some ds) c h = no_list_of_both ds c h

no_value_of_both : (o : Option Data) (c : StateCounts)
    → option_and_then counts_of_list (option_and_then elements o) ≡ Some c
    → option_and_then form_of o ≡ None
unfolding form_of
no_value_of_both None c h = refl
no_value_of_both (Some d) c h = no_elements_of_both (elements d) c h

none_of_both : {A : Type 0} (is_long : Bool) (o : Option A) → o ≡ None
    → (if is_long then None else o) ≡ None
none_of_both true o h = refl
none_of_both false o h = h

no_line_of_both : (l : List ℕ) (c : StateCounts) → counts_of_line l ≡ Some c
    → base_line_of l ≡ None
unfolding counts_of_line base_line_of
no_line_of_both l c h =
    none_of_both (nat_lt max_line_bytes (length l)) (option_and_then form_of (json_of l))
    (no_value_of_both (json_of l) c h)

report_is_no_state : (bytes : List ℕ) (executed : List Id) (stored : Contents)
    → IsBase bytes executed stored → ¬ BeginsAsState bytes
report_is_no_state bytes executed stored is begins =
    let none = no_line_of_both begins.first begins.counts begins.said in
    let said : map base_line_of (begins.first ∷ begins.rest)
    ≡ map Some (lines_in_order is.parts) =
    ap (map base_line_of) (sym begins.cut) ∙ is.said in
    cc (said, none)

pub BeginsAsState-if_state : (bytes : List ℕ) (p : StateParts) → IsState bytes p
    → BeginsAsState bytes
BeginsAsState-if_state bytes p is = record {
  first = is.said.first;
  rest = _;
  counts = _;
  cut = is.said.cut;
  said = is.said.counts_said;
}

-- ---- executors that go on from the same bytes

same_reports : (a b : List Id) (s t : Contents) (v w : ExecutorView) → (a ≡ b) × (s ≡ t)
    → HoldsReport a s v → HoldsReport b t w → HoldTheSame v w
same_reports a b s t v w same hv hw = record {
  done = λ x. (
    λ h. (hw.done x).1 (subst (λ (ids : List Id). Contains ids x) same.0 ((hv.done x).0 h)),
    λ h. (hv.done x).1 (subst (λ (ids : List Id). Contains ids x) (sym same.0)
        ((hw.done x).0 h)),
  );
  store = hv.store ∙ same.1 ∙ sym hw.store;
  pending = hv.pending ∙ sym hw.pending;
}

pub StartedHoldTheSame-holds : StartedHoldTheSame
StartedHoldTheSame-holds bytes v w line other (inl x) (inl y) =
    RestoredHoldTheSame-holds bytes x.0 y.0 v w x.1 x.2 y.1 y.2
StartedHoldTheSame-holds bytes v w line other (inl x) (inr y) =
    absurd (report_is_no_state bytes y.0 y.1 y.2 (BeginsAsState-if_state bytes x.0 x.1))
StartedHoldTheSame-holds bytes v w line other (inr x) (inl y) =
    absurd (report_is_no_state bytes x.0 x.1 x.2 (BeginsAsState-if_state bytes y.0 y.1))
StartedHoldTheSame-holds bytes v w line other (inr x) (inr y) =
    same_reports x.0 y.0 x.1 y.1 v w
    (BaseSaysOneThing-holds bytes x.0 y.0 x.1 y.1 x.2 y.2) x.3 y.3

-- ---- the first line

pub BeginsAsState-not_nil : (bytes : List ℕ) → lines_of bytes ≡ [] → ¬ BeginsAsState bytes
BeginsAsState-not_nil bytes none begins = cc (none, begins.cut)

-- the test of the first line
pub BeginsAsState-iff_read : (bytes first : List ℕ) (rest : List (List ℕ)) (o : Option StateCounts)
    → lines_of bytes ≡ first ∷ rest → o ≡ counts_of_line first
    → IsTrue (is_some o) ↔ BeginsAsState bytes
BeginsAsState-iff_read bytes first rest (Some c) cut is = (
  λ h. record { first = first; rest = rest; counts = c; cut = cut; said = sym is },
  λ begins. refl,
)
BeginsAsState-iff_read bytes first rest None cut is = (
  λ h. absurd (cc h),
  λ begins.
      let same : first ≡ begins.first = cc (cut, begins.cut) in
      absurd (cc (is, ap counts_of_line same, begins.said)),
)

-- memory says nothing about the bytes
pub IsStartFault-memory : (bytes : List ℕ) → IsStartFault bytes Memory
IsStartFault-memory bytes = by_lines (lines_of bytes) refl
  where
    by_counts : (first : List ℕ) (rest : List (List ℕ)) (o : Option StateCounts)
        → lines_of bytes ≡ first ∷ rest → o ≡ counts_of_line first → IsStartFault bytes Memory
    by_counts first rest (Some c) cut is =
        inl ((BeginsAsState-iff_read bytes first rest (Some c) cut is).0 refl, tt)
    by_counts first rest None cut is = inr (
      λ begins. absurd (cc ((BeginsAsState-iff_read bytes first rest None cut is).1 begins)),
      (why.Memory, tt, refl),
    )

    by_lines : (lines : List (List ℕ)) → lines_of bytes ≡ lines → IsStartFault bytes Memory
    by_lines [] none = inr (BeginsAsState-not_nil bytes none, (why.Memory, tt, refl))
    by_lines (first ∷ rest) cut = by_counts first rest (counts_of_line first) cut refl

-- ---- the executor of a report

nothing_waits : (done : List Id) (store : Contents)
    → AllWait (record { done = done; store = store; pending = [] })
nothing_waits done store = record {
  rising = tt;
  not_done = λ e h. absurd (Contains-nil e h);
  none_ready = λ x h. Contains-nil x h.committed;
}

-- no instance is given to it, so it executes none
pub HoldsReport-commit : RestartedExecutorHoldsTheSame → (executed done : List Id)
    (stored : Contents) → ((x : Id) → Contains done x ↔ Contains executed x)
    → (after : ExecutorView) (replies : List (Id × Reply))
    → IsCommit (record { done = done; store = stored; pending = [] }) [] after replies
    → HoldsReport executed stored after
HoldsReport-commit restarted executed done stored each after replies commit =
    let same : HoldTheSame after (record { done = done; store = stored; pending = [] }) =
    (restarted (record { done = done; store = stored; pending = [] }) (nothing_waits done stored)
    done (λ x. (λ h. h, λ h. h)) after replies commit).1 in
    record {
      done = λ x. (
        λ h. (each x).0 ((same.done x).0 h),
        λ h. (same.done x).1 ((each x).1 h),
      );
      store = same.store;
      pending = same.pending;
    }

-- Ids that are put into a new set
pub Contains-added_to_none : (before done ids : List Id) → before ≡ []
    → ((x : Id) → Contains done x ↔ (Contains before x ⊎ Contains ids x))
    → (x : Id) → Contains done x ↔ Contains ids x
Contains-added_to_none before done ids none each x = (
  λ h. elim ((each x).0 h) [
    | inl old ↦ absurd (Contains-nil x (subst (λ (xs : List Id). Contains xs x) none old))
    | inr new ↦ new
  ],
  λ h. (each x).1 (inr h),
)

pub IsReportFault-from_merge : (bytes : List ℕ) (done : List Id) (f : Fault)
    → IsMergeFault (call_lines done [] []) f → IsReportFault bytes f
IsReportFault-from_merge bytes done f h = (why.Memory, tt, IsMergeFault-is_memory done f h)
