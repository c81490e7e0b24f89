-- What two committed instances have in common.
use Rattle.std.specs.Prelude.{◌==◌, ◌&&◌, Bool}
use Rattle.std.specs.Cmp.Lexicographic.{pointwise}
use Rattle.std.specs.Ordering.{is_eq}
use Rattle.epx_types.specs.contracts.op.OpPartialEq.TheImpl as op_eq
use Rattle.epx_types.specs.declared.id.Id.{Id}
use Rattle.epx_types.specs.declared.op.Op.{Op}
use Rattle.epx_types.specs.Ids.{id_cmp}
use Rattle.epx_types.specs.Instances.{Instance}

-- two Ids have the same replica and the same number
abbrev pub same_id : Id → Id → Bool
same_id x y = is_eq (id_cmp x y)

-- two operations are of one kind and have the same keys and values
abbrev pub same_op : Op → Op → Bool
same_op = op_eq.eq-value.it

-- two instances have the same sequence number
abbrev pub same_seq : Instance → Instance → Bool
same_seq d e = d.seq == e.seq

-- two instances have the same dependencies, item by item; where both lists rise, these are the same
-- sets
abbrev pub same_deps : Instance → Instance → Bool
same_deps d e = pointwise same_id d.deps e.deps

-- two instances have the same operations, in the same order
abbrev pub same_ops : Instance → Instance → Bool
same_ops d e = pointwise same_op d.ops e.ops

-- two instances have the same Id, sequence number, list of dependencies and list of operations
abbrev pub same_instance : Instance → Instance → Bool
same_instance d e = same_id d.id e.id && same_seq d e && same_deps d e && same_ops d e
