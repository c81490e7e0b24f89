-- There is one answer about a history, and it is one line exactly where the history is linear.
use Rattle.std.proofs.Common.{◌≡◌, ℕ, List, length, sym, ap, subst, ◌∙◌}
use Rattle.std.specs.FinMap as contents
use Rattle.epx_types.proofs.Common.{Instance, Ranked, ranked_ids, IsExecutionOrder, commands_in}
use Rattle.epx_types.proofs.Common.{IsExecutionOrder-unique, length-map, length-replies}
use Rattle.epx_types.specs.declared.id.Id.{Id}
use Rattle.epx_types.specs.declared.op.Op.{Op}
use Rattle.epx_types.specs.declared.reply.Reply.{Reply}
use Rattle.epx_verify.specs.ListExecutions.{list_execution}
use Rattle.epx_linear.specs.declared.client_call.ClientCall.{ClientCall}
use Rattle.epx_linear.specs.ClientCalls.{calls_in}
use Rattle.epx_linear.specs.LinearTexts.{linear_text, IsTextOver, IsLinearText}
use Rattle.epx_linear.specs.LinearTextLaws.{LinearTextIsUnique, LinearLineMeansLinear}
use Rattle.epx_linear.proofs.LateUniqueLemmas.{AreFoundLate-is_unique}
use Rattle.epx_linear.proofs.FindingLemmas.{linear_text-iff_linear}

module _ (ids : List Id) (commands : List (List Op)) (replies : List Reply)
    (h : List ClientCall) where
  text_over_is_unique : (text other : List ℕ) → IsTextOver ids commands replies h text
      → IsTextOver ids commands replies h other → text ≡ other
  text_over_is_unique text other p q =
      p.printed
      ∙ ap (linear_text ids replies h)
      (AreFoundLate-is_unique commands (calls_in h ids) p.late q.late p.found q.found)
      ∙ sym q.printed

module _ (m : List Instance) (h : List ClientCall) where
  -- what the text says over an order, from what it says over instances and commands of this order
  pub IsLinearText-of_order : (order : List Ranked) → IsExecutionOrder m order → (ids : List Id)
      (commands : List (List Op)) (replies : List Reply) (text : List ℕ)
      → ids ≡ ranked_ids order → commands ≡ commands_in m (ranked_ids order)
      → replies ≡ (list_execution m (ranked_ids order)).replies
      → IsTextOver ids commands replies h text → IsLinearText m h text
  IsLinearText-of_order order ordered ids commands replies text are_ids are_commands are_replies
      said = record {
        order = order;
        ordered = ordered;
        said = subst
            (λ rs. IsTextOver (ranked_ids order) (commands_in m (ranked_ids order)) rs h text)
            are_replies (subst (λ cs. IsTextOver (ranked_ids order) cs replies h text) are_commands
            (subst (λ xs. IsTextOver xs commands replies h text) are_ids said));
      }

  -- what the text says over the order of the map
  pub IsTextOver-order : (order : List Ranked) (text : List ℕ) → IsExecutionOrder m order
      → IsLinearText m h text → IsTextOver (ranked_ids order) (commands_in m (ranked_ids order))
      (list_execution m (ranked_ids order)).replies h text
  IsTextOver-order order text ordered is =
      subst (λ (o : List Ranked). IsTextOver (ranked_ids o) (commands_in m (ranked_ids o))
      (list_execution m (ranked_ids o)).replies h text)
      (IsExecutionOrder-unique m is.order order is.ordered ordered) is.said

pub LinearTextIsUnique-holds : LinearTextIsUnique
LinearTextIsUnique-holds m h text other p q =
    text_over_is_unique (ranked_ids q.order) (commands_in m (ranked_ids q.order))
    (list_execution m (ranked_ids q.order)).replies h text other
    (IsTextOver-order m h q.order text q.ordered p) q.said

pub LinearLineMeansLinear-holds : LinearLineMeansLinear
LinearLineMeansLinear-holds m h order text history ordered is =
    let ids = ranked_ids order in
    let commands = commands_in m ids in
    let replies = (list_execution m ids).replies in
    let said = IsTextOver-order m h order text ordered is in
    let as_many : length commands ≡ length ids = length-map ids _ in
    let iff = linear_text-iff_linear ids commands replies h said.late history (sym as_many)
    (length-replies commands contents.empty ∙ as_many) said.found in (
      λ e. iff.0 (sym said.printed ∙ e),
      λ linear. said.printed ∙ iff.1 linear,
    )
