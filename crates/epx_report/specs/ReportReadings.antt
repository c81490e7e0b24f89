-- A report, and the result of reading it as a base.
use Rattle.std.specs.Prelude.{ℕ, ℤ, ◌^◌, ◌<◌, ◌≤◌, List, ◌++◌, length, map, flat_map, All}
use Rattle.std.specs.Prelude.{Option, IfSome, IsUtf8}
use Rattle.std.specs.Int.{w64}
use Rattle.std.specs.Int.RustNames.{FitsSigned}
use Rattle.epx_types.specs.declared.id.Id.{Id}
use Rattle.epx_types.specs.declared.reply.Reply.{Reply}
use Rattle.epx_types.specs.declared.reply.Reply.TheVariants.{Values, Abort}
use Rattle.epx_types.specs.WaitingLists.{Waiting, waiting_ids}
use Rattle.epx_types.specs.Keys.{FitsKey}
use Rattle.epx_lines.specs.Lines.{lines_of}
use Rattle.epx_report.specs.Bases.{BaseParts, Say, lines_in_order}
use Rattle.epx_report.specs.ReportLines.{header_line, done_line, reply_line, waiting_line}
use Rattle.epx_report.specs.ReportLines.{store_line}

-- ---- a report

-- the data that a report is written from
pub record ReportData : Type 0 where
  -- how many components the executed instances make up
  pub components : ℕ
  -- the instances that were done before
  pub done : List Id
  pub replies : List (Id × Reply)
  pub waiting : List Waiting
  -- the keys of the store, with their values, in the order of their lines
  pub stored : List (List ℕ × ℤ)

-- the instances of replies, in the order of the replies
abbrev pub replied_ids : List (Id × Reply) → List Id
replied_ids replies = map (λ p. p.0) replies

-- the text of a report: its header, then its done, reply, waiting and store lines
abbrev pub text_of_report : ReportData → List ℕ
text_of_report r =
    header_line (length r.replies) (length r.waiting) r.components
    ++ (flat_map done_line r.done
    ++ (flat_map reply_line r.replies
    ++ (flat_map waiting_line r.waiting ++ flat_map store_line r.stored)))

-- what the lines of a report say, by kind
abbrev pub parts_of_report : ReportData → BaseParts
parts_of_report r =
    record {
      counts = record { executed = length r.replies; waiting = length r.waiting };
      done = r.done;
      replied = replied_ids r.replies;
      waiting = waiting_ids r.waiting;
      stored = r.stored;
    }

-- ---- the numbers and texts of a report are within their limits

-- an Id of a replica below 256 and a number below 2^64
abbrev pub FitsNumbers : Id → Type 0
FitsNumbers x = (x.replica < 256) × (x.number < 2 ^ 64)

-- a value of 64 bits with sign, or none
abbrev pub FitsOptional : Option ℤ → Type 0
FitsOptional o = IfSome o (FitsSigned w64)

-- a reply of at most 64 values, each of 64 bits with sign or none, or an abort at an index below 64
abbrev pub FitsReply : Reply → Type 0
FitsReply (Values vs) = (length vs ≤ 64) × All FitsOptional vs
FitsReply (Abort j) = j < 64

-- the numbers and texts of a report are within the limits of a base, and it has no more components
-- than replies
pub record FitsReportData (r : ReportData) : Type 0 where
  pub replies_counted : length r.replies < 2 ^ 64
  pub waiting_counted : length r.waiting < 2 ^ 64
  pub few_components : r.components ≤ length r.replies
  pub done_fit : All FitsNumbers r.done
  pub replies_fit : All (λ p. FitsNumbers p.0 × FitsReply p.1) r.replies
  pub waiting_fit : All (λ w. FitsNumbers w.id × FitsNumbers w.missing) r.waiting
  pub stored_fit : All (λ p. FitsKey p.0 × IsUtf8 p.0 × FitsSigned w64 p.1) r.stored

-- if the data of a report are within limits (`FitsReportData`), the lines of its text say what the
-- report was written from
abbrev pub ReportIsReadAsItSays : Type 0
ReportIsReadAsItSays = (r : ReportData) → FitsReportData r
    → Say (lines_of (text_of_report r)) (lines_in_order (parts_of_report r))
