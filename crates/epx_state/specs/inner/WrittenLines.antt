-- Written lines that are read as what they were written from.
use Rattle.std.specs.Prelude.{◌≡◌, ℕ, ℤ, List, Some}
use Rattle.serde_json.specs.Written.{compact_text}
use Rattle.epx_types.specs.Instances.{Instance}
use Rattle.epx_lines.specs.Text.{line_text}
use Rattle.epx_report.specs.ReportLines.{array_of, store_data}
use Rattle.epx_executor.specs.declared.done_runs.Run.{Run}
use Rattle.epx_state.specs.declared.forms.StateCounts.{StateCounts}
use Rattle.epx_state.specs.StateForms.{counts_of_line, entry_of_line, pair_of_line}
use Rattle.epx_state.specs.StateForms.{run_data, run_of_line, state_data}

-- the first line that is written of these counts is read as these
pub record AreReadCounts (c : StateCounts) : Type 0 where
  pub read : counts_of_line (compact_text (array_of (state_data c))) ≡ Some c

-- the line that is written of a run is read as this run
pub record IsReadRun (r : Run) : Type 0 where
  pub read : run_of_line (compact_text (array_of (run_data r))) ≡ Some r

-- the line that is written of an instance is read as this instance
pub record IsReadEntry (e : Instance) : Type 0 where
  pub read : entry_of_line (line_text e) ≡ Some e

-- the line that is written of a key and its value is read as these
pub record IsReadPair (s : List ℕ × ℤ) : Type 0 where
  pub read : pair_of_line (compact_text (array_of (store_data s))) ≡ Some s
