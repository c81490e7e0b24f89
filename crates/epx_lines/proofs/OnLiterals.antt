use Rattle.epx_types.proofs.Common.{⊤}
use Rattle.std.specs.Str.{is_utf8}
use Rattle.std.specs.Fmt.{digits}
use Rattle.std.specs.Str.{chars}
use Rattle.serde_json.proofs.OnLiterals.{serde_json_on_literals}
use Rattle.epx_lines.specs.Elements.{whole}
use Rattle.epx_lines.specs.DependencyList.{id_of, deps_of}
use Rattle.epx_lines.specs.OperationList.{key_of, value_or_null, op_with_key, op_with_value, op_of}
use Rattle.epx_lines.specs.OperationList.{ops_of}
use Rattle.epx_lines.specs.Meaning.{meaning_of_object}
use Rattle.epx_lines.specs.Text.{data_of_op}

-- what a proof must unfold to compute the meaning of a literal line, or the line of a literal
-- entry
unfoldable pub lines_on_literals : ⊤
unfolding serde_json_on_literals digits is_utf8 chars whole id_of deps_of key_of value_or_null
    op_with_key op_with_value op_of ops_of meaning_of_object data_of_op
lines_on_literals = tt
