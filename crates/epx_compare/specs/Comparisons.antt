-- What logs say against each other, as text.
use Rattle.std.specs.Prelude.{◌≡◌, ◌≢◌, ℕ, zero, suc, ◌∷◌, ◌++◌, List, [], length, flat_map}
use Rattle.epx_types.specs.declared.id.Id.{Id}
use Rattle.epx_types.specs.PlacedLines.{Placed}
use Rattle.epx_merge.specs.LogLines.{BadLineAt, placed_of, bad_lines_of}
use Rattle.epx_committed.specs.InstanceCounts.{AreNamedBy}
use Rattle.epx_report.specs.ReportLines.{line_of}
use Rattle.epx_compare.specs.ComparisonLines.{log_data, bad_data, differs_data, lacks_data}
use Rattle.epx_compare.specs.ComparisonLines.{missing_count_data}
use Rattle.epx_compare.specs.Differences.{lines_of_id, differing_members, groups_of}
use Rattle.epx_compare.specs.Gaps.{has_line, gaps_of}
use Rattle.epx_compare.specs.LogCounts.{lines_in, bad_lines_in}
use Rattle.epx_compare.specs.MissingDeps.{dependents_of, AreMissingDeps}

-- the texts of `count` log numbers, from `first` on, one after another
abbrev pub for_logs : ℕ → ℕ → (ℕ → List ℕ) → List ℕ
for_logs first zero text = []
for_logs first (suc count) text = text first ++ for_logs (suc first) count text

-- the line `["log",L,lines,bad]` of each log, for so many logs from log 0 on
abbrev pub counts_text : ℕ → List Placed → List BadLineAt → List ℕ
counts_text logs lines bad =
    for_logs 0 logs (λ log. line_of (log_data log (lines_in lines log) (bad_lines_in bad log)))

-- the line `["bad",L,N,"WHY"]` of each bad line
abbrev pub bad_text : List BadLineAt → List ℕ
bad_text bad = flat_map (λ b. line_of (bad_data b)) bad

-- the line `["differs",r,i,[MEMBER,..],[GROUP,..]]` of instance x, whose lines are `own`, if
-- members are named, and no text otherwise
abbrev pub difference_in : List (List ℕ) → Id → List Placed → List ℕ
difference_in [] x own = []
difference_in (member ∷ members) x own =
    line_of (differs_data x (member ∷ members) (groups_of own))

-- the line `differs` of instance x if two of its lines differ in some member, and no text otherwise
abbrev pub difference_text : List Placed → Id → List ℕ
difference_text lines x = let own = lines_of_id lines x in
    difference_in (differing_members own) x own

-- the line `["lacks",L,r,from,to]` of each gap of each log, log by log; the gaps are among `ids`
abbrev pub gaps_text : ℕ → List Placed → List Id → List ℕ
gaps_text logs lines ids = for_logs 0 logs
    (λ log. flat_map (λ gap. line_of (lacks_data log gap)) (gaps_of (has_line lines log) ids))

-- the line `["missing",r,i,count]` of each Id of `missing`; it counts those of `ids` that depend on
-- it
abbrev pub missing_counts_text : List Placed → List Id → List Id → List ℕ
missing_counts_text lines ids missing =
    flat_map (λ x. line_of (missing_count_data x (dependents_of lines ids x))) missing

-- the lines of what is wrong with the logs: bad lines, differences and gaps
abbrev pub findings_text : ℕ → List Placed → List BadLineAt → List Id → List ℕ
findings_text logs lines bad ids =
    bad_text bad ++ (flat_map (difference_text lines) ids ++ gaps_text logs lines ids)

-- the whole text: the lines `log`, the findings, and the lines `missing`; `ids` are the committed
-- instances, and `missing` the dependencies that are not committed
abbrev pub comparison_text : ℕ → List Placed → List BadLineAt → List Id → List Id → List ℕ
comparison_text logs lines bad ids missing = counts_text logs lines bad
    ++ (findings_text logs lines bad ids ++ missing_counts_text lines ids missing)

-- the text compares the logs: it has the counts of each log, the bad lines, the differences, the
-- gaps, and the dependencies that no log commits
pub record IsComparison (logs : List (List ℕ)) (text : List ℕ) : Type 0 where
  pub ids : List Id
  pub missing : List Id
  pub named : AreNamedBy (placed_of logs) ids
  pub open_ends : AreMissingDeps (placed_of logs) ids missing
  pub printed : text
      ≡ comparison_text (length logs) (placed_of logs) (bad_lines_of logs) ids missing

-- something is wrong with the logs: a line is bad, lines commit an instance differently, or a log
-- lacks an instance that another one commits
pub record HasFindings (logs : List (List ℕ)) : Type 0 where
  pub ids : List Id
  pub named : AreNamedBy (placed_of logs) ids
  pub some : findings_text (length logs) (placed_of logs) (bad_lines_of logs) ids ≢ []
