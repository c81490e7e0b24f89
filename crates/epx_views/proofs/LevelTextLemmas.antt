-- The text of the conflict levels of a map, put together from its parts.
use Rattle.std.proofs.Common.{◌≡◌, ◌++◌, ◌∙◌, ℕ, List, length, flat_map, zip, ap, subst}
use Rattle.epx_types.proofs.Common.{append_assoc, Instance, commands_in, Ranked, IsExecutionOrder}
use Rattle.epx_types.proofs.Common.{ranked_ids, component_count, AreLevels, Waiting, IsWaitingList}
use Rattle.epx_types.specs.declared.id.Id.{Id}
use Rattle.epx_report.specs.ReportLines.{header_line, waiting_line}
use Rattle.epx_report.specs.ViewLines.{level_line}
use Rattle.epx_views.specs.LevelText.{IsLevelText}

pub IsLevelText-printed : (m : List Instance) (order : List Ranked) (waiting : List Waiting)
    (ids : List Id) (levels : List ℕ) (front middle text : List ℕ)
    → ids ≡ ranked_ids order → AreLevels (commands_in m ids) levels
    → front ≡ header_line (length order) (length waiting) (component_count order)
    → middle ≡ front ++ flat_map level_line (zip ids levels)
    → text ≡ middle ++ flat_map waiting_line waiting
    → IsExecutionOrder m order → IsWaitingList m waiting → IsLevelText m text
IsLevelText-printed m order waiting ids levels front middle text are levelled is_front is_middle
    is_text ordered listed = record {
      order = order;
      levels = levels;
      waiting = waiting;
      ordered = ordered;
      levelled = subst (λ (xs : List Id). AreLevels (commands_in m xs) levels) are levelled;
      listed = listed;
      printed =
          is_text ∙ ap (λ t. t ++ waits) (is_middle ∙ ap (λ t. t ++ lines ids) is_front)
          ∙ append_assoc header (lines ids) waits ∙ ap (λ xs. header ++ (lines xs ++ waits)) are;
    } where
      header : List ℕ
      header = header_line (length order) (length waiting) (component_count order)

      lines : List Id → List ℕ
      lines xs = flat_map level_line (zip xs levels)

      waits : List ℕ
      waits = flat_map waiting_line waiting
