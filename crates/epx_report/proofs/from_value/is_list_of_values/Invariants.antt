use Rattle.std.proofs.Common.{◌≡◌, drop}
use Rattle.epx_types.proofs.Common.{list_all}
use Rattle.serde_json.specs.View.{view}
use Rattle.epx_report.specs.Forms.{is_value_list}
use Rattle.epx_report.proofs.ValueListLemmas.{is_value_or_null}
use Rattle.epx_report.proofs.from_value.is_list_of_values.Given as goal

abbrev pub invariant-loop-value : goal.invariant-loop-value
invariant-loop-value l = is_value_list (view l.fn.value)
    ≡ list_all is_value_or_null (drop l.value-index l.value-items)
