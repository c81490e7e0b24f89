use Rattle.std.proofs.Common.{◌∙◌, refl, ap}
use Rattle.serde_json.specs.Written.{has_float}
use Rattle.epx_lines.proofs.FloatLemmas.{no_float-items}
use Rattle.epx_report.specs.ReportLines.{data_of_number}
use Rattle.epx_compare.proofs.comparison_lines.append_numbers.Goals as goal

pub append_line-requires : goal.append_line-requires
append_line-requires c = ap has_float c.in_ok-numbers_value.ensures
    ∙ no_float-items data_of_number (λ n. refl) c.args.numbers.now
