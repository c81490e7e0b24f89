-- Traces: what the laws say of them.
use Rattle.std.proofs.Common.{◌≡◌, inl, inr, ℕ, ℤ, List, [], ◌∷◌, Option, flat_map, fold, refl, sym}
use Rattle.std.proofs.Common.{ap, subst, ◌∙◌}
use Rattle.std.specs.FinMap as contents
use Rattle.epx_types.proofs.Common.{cases_Bool, command_on, touched_keys, Contents, Ranked}
use Rattle.epx_types.proofs.Common.{IsExecutionOrder-unique, IsExecutionOrder-exists}
use Rattle.epx_trace.specs.Traces.{IdCommand, has_key, writes_key, touch_of, trace_of}
use Rattle.epx_trace.specs.TraceLaws.{value_before, value_left, FindLastWrites, TraceTextExists}
use Rattle.epx_trace.specs.TraceLaws.{TraceTextIsUnique, TouchesFindLastWrites, LastWriteIsStored}
use Rattle.epx_trace.specs.TraceLines.{touch_line}
use Rattle.epx_trace.specs.TraceTexts.{ordered_commands}
use Rattle.epx_trace.proofs.KeyTestLemmas.{get-untouched, get-unwritten}

pub TraceTextExists-holds : TraceTextExists
TraceTextExists-holds m key reads rising =
    let order = IsExecutionOrder-exists m rising in (
      flat_map (touch_line reads) (trace_of (ordered_commands m order.0) contents.empty key),
      record { order = order.0; ordered = order.1; printed = refl },
    )

pub TraceTextIsUnique-holds : TraceTextIsUnique
TraceTextIsUnique-holds m key reads text other p q =
    p.printed
    ∙ ap (λ (order : List Ranked). flat_map (touch_line reads)
    (trace_of (ordered_commands m order) contents.empty key))
    (IsExecutionOrder-unique m p.order q.order p.ordered q.ordered)
    ∙ sym q.printed

-- ---- the values of one touch

touch_value_before : (p : IdCommand) (c : Contents) (k : List ℕ)
    → value_before (touch_of p c k) ≡ contents.get c k
touch_value_before p c k =
    elim (cases_Bool (writes_key p.1 c k)) [ inl w ↦ rw w refl | inr r ↦ rw r refl ]

touch_value_left : (p : IdCommand) (c : Contents) (k : List ℕ)
    → value_left (contents.get c k) (touch_of p c k) ≡ contents.get (command_on p.1 c).after k
touch_value_left p c k =
    elim (cases_Bool (writes_key p.1 c k)) [
      | inl w ↦ rw w refl
      | inr r ↦ rw r (sym (get-unwritten p.1 c k r))
    ]

-- ---- the laws

pub TouchesFindLastWrites-holds : TouchesFindLastWrites
TouchesFindLastWrites-holds [] c k = tt
TouchesFindLastWrites-holds (p ∷ rest) c k =
    let after = (command_on p.1 c).after in
    let later = TouchesFindLastWrites-holds rest after k in
    elim (cases_Bool (has_key (touched_keys p.1) k)) [
      | inl touched ↦ rw touched (
        touch_value_before p c k,
        subst (λ (v : Option ℤ). FindLastWrites v (trace_of rest after k))
            (sym (touch_value_left p c k)) later,
      )
      | inr none ↦ rw none (subst (λ (v : Option ℤ). FindLastWrites v (trace_of rest after k))
          (get-untouched p.1 c k none) later)
    ]

pub LastWriteIsStored-holds : LastWriteIsStored
LastWriteIsStored-holds [] c k = refl
LastWriteIsStored-holds (p ∷ rest) c k =
    let after = (command_on p.1 c).after in
    let later = LastWriteIsStored-holds rest after k in
    let from : Option ℤ → Option ℤ = λ v. fold value_left v (trace_of rest after k) in
    elim (cases_Bool (has_key (touched_keys p.1) k)) [
      | inl touched ↦ rw touched (later ∙ ap from (sym (touch_value_left p c k)))
      | inr none ↦ rw none (later ∙ ap from (get-untouched p.1 c k none))
    ]
