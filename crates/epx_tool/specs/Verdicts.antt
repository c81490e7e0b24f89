-- The text of a verdict on a list of instances, or on what a replica said, that is checked against
-- a committed map.
use Rattle.std.specs.Prelude.{◌≡◌, ◌≢◌, ◌⊎◌, ◌++◌, ℕ, List, [], codes}
use Rattle.serde_json.specs.Data.{Data}
use Rattle.epx_types.specs.declared.id.Id.{Id}
use Rattle.epx_types.specs.declared.reply.Reply.{Reply}
use Rattle.epx_types.specs.Contents.{Contents}
use Rattle.epx_types.specs.Instances.{Instance}
use Rattle.epx_types.specs.LawfulPrefixes.{IsLawfulPrefix}
use Rattle.epx_types.specs.LawfulOrders.{IsLawful}
use Rattle.epx_report.specs.ReportLines.{line_of}
use Rattle.epx_report.specs.ReportReadings.{replied_ids}
use Rattle.epx_report.specs.ViewLines.{lawful_line, position_data, missing_data}
use Rattle.epx_ranking.specs.declared.order_fault.OrderFault.{OrderFault}
use Rattle.epx_ranking.specs.declared.order_fault.OrderFault.TheVariants.{Memory, Stranger, Repeat}
use Rattle.epx_ranking.specs.declared.order_fault.OrderFault.TheVariants.{Missing, Early, Sequence}
use Rattle.epx_ranking.specs.PrefixFaults.{IsPrefixFault}
use Rattle.epx_ranking.specs.OrderFaults.{IsOrderFault}
use Rattle.epx_verify.specs.Differences.{differences_text}

-- the elements of the line of a fault of a list: its name and the position that has it, as
-- `["early",p]`, or `["missing",r,i]`; none for `Memory`
abbrev pub fault_data : OrderFault → List Data
fault_data Memory = []
fault_data (Stranger place) = position_data (codes "stranger") place
fault_data (Repeat place) = position_data (codes "repeat") place
fault_data (Missing x) = missing_data x
fault_data (Early place) = position_data (codes "early") place
fault_data (Sequence place) = position_data (codes "sequence") place

-- the line of a fault of a list: `["stranger",p]`, `["repeat",p]`, `["missing",r,i]`, `["early",p]`
-- or `["sequence",p]`
abbrev pub order_fault_text : OrderFault → List ℕ
order_fault_text fault = line_of (fault_data fault)

-- the text is the line `["lawful"]`, and the list is a lawful order of the map; or it is the line
-- of the fault of the list
abbrev pub IsVerdict : List Instance → List Id → List ℕ → Type 0
IsVerdict m ids text = (IsLawful m ids × (text ≡ lawful_line))
    ⊎ ((fault : OrderFault) × (fault ≢ Memory) × IsOrderFault m ids fault
    × (text ≡ order_fault_text fault))

-- the text is the line `["lawful"]`, and the list is a prefix of a lawful order of the map; or it
-- is the line of the fault of the list as a prefix
abbrev pub IsPrefixVerdict : List Instance → List Id → List ℕ → Type 0
IsPrefixVerdict m ids text = (IsLawfulPrefix m ids × (text ≡ lawful_line))
    ⊎ ((fault : OrderFault) × (fault ≢ Memory) × IsPrefixFault m ids fault
    × (text ≡ order_fault_text fault))

-- the text is the line `["lawful"]` and then the lines of the wrong replies and values, and the
-- order of the replies is a prefix of a lawful order; or it is the line of the fault of that order
abbrev pub IsSaidVerdict : List Instance → List (Id × Reply) → Contents → List ℕ → Type 0
IsSaidVerdict m replies stored text =
    (IsLawfulPrefix m (replied_ids replies)
    × (text ≡ lawful_line ++ differences_text m replies stored))
    ⊎ ((fault : OrderFault) × (fault ≢ Memory) × IsPrefixFault m (replied_ids replies) fault
    × (text ≡ order_fault_text fault))
