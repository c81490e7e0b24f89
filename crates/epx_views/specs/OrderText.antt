-- The text of the execution order.
use Rattle.std.specs.Prelude.{◌≡◌, ℕ, List, ◌++◌, length, flat_map}
use Rattle.epx_types.specs.Instances.{Instance}
use Rattle.epx_types.specs.ExecutionOrder.{Ranked, IsExecutionOrder, component_count}
use Rattle.epx_types.specs.WaitingLists.{Waiting, IsWaitingList}
use Rattle.epx_report.specs.ReportLines.{header_line, waiting_line}
use Rattle.epx_report.specs.ViewLines.{order_line}

-- the header line of a report, an order line for each instance of the order, and the waiting lines
abbrev pub order_text : List Ranked → List Waiting → List ℕ
order_text order waiting = header_line (length order) (length waiting) (component_count order)
    ++ (flat_map order_line order ++ flat_map waiting_line waiting)

-- the text is that of the execution order of the map, and of the instances that wait in it
pub record IsOrderText (m : List Instance) (text : List ℕ) : Type 0 where
  pub order : List Ranked
  pub waiting : List Waiting
  pub ordered : IsExecutionOrder m order
  pub listed : IsWaitingList m waiting
  pub printed : text ≡ order_text order waiting
