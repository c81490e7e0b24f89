-- The store of a report has what the last write of a key's trace leaves.
use Rattle.std.proofs.Common.{◌≡◌, ◌∙◌, ℕ, List, [], ◌∷◌, map, fold, Bool, None, ℤ, refl, sym, ap}
use Rattle.std.specs.FinMap as contents
use Rattle.epx_types.proofs.Common.{key_cmp, Instance, commands_in, instance_of, ops_or_empty}
use Rattle.epx_types.proofs.Common.{execute, Ranked, IsExecutionOrder, ranked_ids}
use Rattle.epx_types.proofs.Common.{IsExecutionOrder-unique}
use Rattle.epx_types.specs.declared.id.Id.{Id}
use Rattle.epx_types.specs.declared.op.Op.{Op}
use Rattle.epx_trace.specs.Traces.{IdCommand, trace_of}
use Rattle.epx_trace.specs.TraceLaws.{value_left}
use Rattle.epx_trace.specs.TraceTexts.{IsTraceText, command_of, ordered_commands}
use Rattle.epx_trace.proofs.TraceLemmas.{LastWriteIsStored-holds}
use Rattle.epx_answer_laws.specs.TraceReportLaws.{TraceEndsInTheStore}

-- a trace executes the commands of the report
commands_traced : (m : List Instance) (ids : List Id)
    → map (λ (p : IdCommand). p.1) (map (command_of m) ids) ≡ commands_in m ids
commands_traced m [] = refl
commands_traced m (x ∷ ids) =
    ap (λ (os : List (List Op)). ops_or_empty (instance_of m x) ∷ os) (commands_traced m ids)

pub execute-final_of_trace : (m : List Instance) (key : List ℕ) (reads : Bool) (text : List ℕ)
    (order : List Ranked) → IsExecutionOrder m order → (t : IsTraceText m key reads text)
    → contents.get (execute (commands_in m (ranked_ids order)) contents.empty).final key
    ≡ fold value_left None (trace_of (ordered_commands m t.order) contents.empty key)
execute-final_of_trace m key reads text order ordered t =
    let same = IsExecutionOrder-unique m order t.order ordered t.ordered in
    let left = λ (os : List (List Op)). contents.get (execute os contents.empty).final key in
    ap (λ o. left (commands_in m (ranked_ids o))) same
    ∙ ap left (sym (commands_traced m (ranked_ids t.order)))
    ∙ LastWriteIsStored-holds (ordered_commands m t.order) contents.empty key
    ∙ ap (λ v. fold value_left v (trace_of (ordered_commands m t.order) contents.empty key))
    (contents.get-empty {X = ℤ} key_cmp key)

pub TraceEndsInTheStore-holds : TraceEndsInTheStore
TraceEndsInTheStore-holds m key reads report text p t =
    execute-final_of_trace m key reads text p.order p.ordered t
