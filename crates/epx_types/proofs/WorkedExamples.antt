-- Worked examples: the replies and writes of small commands, computed by the definitions
-- themselves.
use Rattle.std.proofs.Common.{◌≡◌, ℕ, ◌-◌, ◌^◌, ℤ, pos, neg_ℤ, cond, List, [], ◌∷◌, codes, Some}
use Rattle.std.proofs.Common.{None, refl}
use Rattle.std.specs.Ordering.{eq_by_cmp}
use Rattle.std.specs.FinMap as contents
use Rattle.std.specs.FinMap.{get-empty, get-insert, get-remove}
use Rattle.epx_types.specs.declared.op.Op.{Op}
use Rattle.epx_types.specs.declared.op.Op.TheVariants.{Get, Put, Del, Add, Is, Floor, Copy}
use Rattle.epx_types.specs.declared.reply.Reply.{Reply}
use Rattle.epx_types.specs.declared.reply.Reply.TheVariants.{Values, Abort}
use Rattle.epx_types.specs.Keys.{key_cmp}
use Rattle.epx_types.specs.Contents.{Contents}
use Rattle.epx_types.specs.Commands.{command_on}
use Rattle.epx_types.specs.CommandKeys.{touched_keys, written_keys}
use Rattle.epx_types.specs.Writes.{Write, writes_of}
use Rattle.epx_types.specs.Execution.{execute}
use Rattle.epx_types.proofs.keys.KeyListLemmas.{key_cmp-IsTotalOrder}

abbrev a : List ℕ
a = codes "a"

abbrev b : List ℕ
b = codes "b"

abbrev c : List ℕ
c = codes "c"

abbrev nothing : Contents
nothing = contents.empty

-- the key a has the value 5
abbrev five : Contents
five = contents.insert nothing a (pos 5)

-- the greatest and the least value
abbrev greatest : ℤ
greatest = pos (2 ^ 63 - 1)

abbrev least : ℤ
least = neg_ℤ (pos (2 ^ 63))

-- the results of look-ups, stated so that they compute

at_empty : (q : List ℕ) → contents.get nothing q ≡ None
at_empty q = get-empty key_cmp q

at_insert : (m : Contents) (k : List ℕ) (v : ℤ) (q : List ℕ)
    → contents.get (contents.insert m k v) q
    ≡ cond (eq_by_cmp key_cmp q k) (Some v) (contents.get m q)
at_insert m k v q = get-insert key_cmp-IsTotalOrder m k v q

at_remove : (m : Contents) (k q : List ℕ)
    → contents.get (contents.remove m k) q ≡ cond (eq_by_cmp key_cmp q k) None (contents.get m q)
at_remove m k q = get-remove key_cmp-IsTotalOrder m k q

-- a command has this reply and these writes
abbrev HasOutcome : List Op → Contents → Reply → List Write → Type 0
HasOutcome ops before reply writes = ((command_on ops before).reply ≡ reply)
    × (writes_of ops before ≡ writes)

-- ---- single operations

a_value_is_put_and_read : HasOutcome (Put a (pos 5) ∷ Get a ∷ []) nothing
    (Values (Some (pos 5) ∷ [])) ((a, Some (pos 5)) ∷ [])
a_value_is_put_and_read = (simp (at_insert, at_empty), simp (at_insert, at_empty))

an_absent_key_reads_as_none : HasOutcome (Get a ∷ []) nothing (Values (None ∷ [])) []
an_absent_key_reads_as_none = (simp at_empty, refl)

a_removed_key_is_absent : HasOutcome (Del a ∷ Get a ∷ []) five (Values (None ∷ []))
    ((a, None) ∷ [])
a_removed_key_is_absent =
    (simp (at_remove, at_insert, at_empty), simp (at_remove, at_insert, at_empty))

absence_counts_as_0_in_a_sum : HasOutcome (Add a (pos 7) ∷ []) nothing (Values [])
    ((a, Some (pos 7)) ∷ [])
absence_counts_as_0_in_a_sum = (simp (at_insert, at_empty), simp (at_insert, at_empty))

a_copy_of_an_absent_key_removes_its_target : HasOutcome (Copy b a ∷ []) five (Values [])
    ((a, None) ∷ [])
a_copy_of_an_absent_key_removes_its_target = (refl, simp (at_insert, at_remove, at_empty))

a_copy_onto_itself_keeps_the_value : HasOutcome (Copy a a ∷ Get a ∷ []) five
    (Values (Some (pos 5) ∷ [])) ((a, Some (pos 5)) ∷ [])
a_copy_onto_itself_keeps_the_value = (simp (at_insert, at_empty), simp (at_insert, at_empty))

-- ---- tests that succeed, and aborts

absence_is_none : HasOutcome (Is a None ∷ []) nothing (Values []) []
absence_is_none = (simp at_empty, simp at_empty)

absence_is_not_0 : HasOutcome (Is a (Some (pos 0)) ∷ []) nothing (Abort 0) []
absence_is_not_0 = (simp at_empty, simp at_empty)

a_value_is_not_absence : HasOutcome (Is a None ∷ []) five (Abort 0) []
a_value_is_not_absence = (simp (at_insert, at_empty), simp (at_insert, at_empty))

a_value_is_itself : HasOutcome (Is a (Some (pos 5)) ∷ []) five (Values []) []
a_value_is_itself = (simp (at_insert, at_empty), simp (at_insert, at_empty))

a_value_is_no_lower_one : HasOutcome (Is a (Some (pos 4)) ∷ []) five (Abort 0) []
a_value_is_no_lower_one = (simp (at_insert, at_empty), simp (at_insert, at_empty))

a_value_is_no_greater_one : HasOutcome (Is a (Some (pos 6)) ∷ []) five (Abort 0) []
a_value_is_no_greater_one = (simp (at_insert, at_empty), simp (at_insert, at_empty))

a_floor_is_reached_by_its_own_value : HasOutcome (Floor a (pos 5) ∷ []) five (Values []) []
a_floor_is_reached_by_its_own_value = (simp (at_insert, at_empty), simp (at_insert, at_empty))

absence_counts_as_0_at_a_floor : HasOutcome (Floor a (pos 0) ∷ Floor a (pos 1) ∷ []) nothing
    (Abort 1) []
absence_counts_as_0_at_a_floor = (simp at_empty, simp at_empty)

-- ---- the bounds of the values

a_sum_past_the_greatest_value_aborts : HasOutcome (Put a greatest ∷ Get a ∷ Add a (pos 1) ∷ [])
    nothing (Abort 2) []
a_sum_past_the_greatest_value_aborts = (simp (at_insert, at_empty), simp (at_insert, at_empty))

a_sum_below_the_least_value_aborts : HasOutcome (Put a least ∷ Add a (neg_ℤ (pos 1)) ∷ []) nothing
    (Abort 1) []
a_sum_below_the_least_value_aborts = (simp (at_insert, at_empty), simp (at_insert, at_empty))

the_least_value_is_a_sum : HasOutcome (Add a least ∷ []) nothing (Values []) ((a, Some least) ∷ [])
the_least_value_is_a_sum = (simp (at_insert, at_empty), simp (at_insert, at_empty))

-- ---- whole commands

a_no_op_changes_nothing : (before : Contents)
    → HasOutcome [] before (Values []) [] × ((command_on [] before).after ≡ before)
a_no_op_changes_nothing before = ((refl, refl), refl)

an_abort_undoes_the_command : ((command_on (Put a (pos 5) ∷ Put b (pos 1) ∷ Floor a (pos 6) ∷ [])
    nothing).reply ≡ Abort 2)
    × ((command_on (Put a (pos 5) ∷ Put b (pos 1) ∷ Floor a (pos 6) ∷ []) nothing).after ≡ nothing)
an_abort_undoes_the_command = (simp (at_insert, at_empty), simp (at_insert, at_empty))

a_floor_after_a_sum : HasOutcome
    (Put a (pos 5) ∷ Floor a (pos 5) ∷ Add a (neg_ℤ (pos 5)) ∷ Floor a (pos 1) ∷ []) nothing
    (Abort 3) []
a_floor_after_a_sum = (simp (at_insert, at_empty), simp (at_insert, at_empty))

reads_see_the_command's_own_writes : HasOutcome
    (Put b (pos 3) ∷ Is a None ∷ Copy a b ∷ Get b ∷ Del a ∷ Put c (pos 1) ∷ Copy c c ∷ Get c ∷ [])
    nothing (Values (None ∷ Some (pos 1) ∷ [])) ((a, None) ∷ (b, None) ∷ (c, Some (pos 1)) ∷ [])
reads_see_the_command's_own_writes =
    (simp (at_insert, at_remove, at_empty), simp (at_insert, at_remove, at_empty))

all_seven_operations : HasOutcome
    (Put b (pos 3) ∷ Is a None ∷ Copy a b ∷ Get b ∷ Del a ∷ Put c (pos 1) ∷ Copy c c ∷ Get c
    ∷ Add c (pos 0) ∷ Floor c (pos 1) ∷ [])
    nothing (Values (None ∷ Some (pos 1) ∷ [])) ((a, None) ∷ (b, None) ∷ (c, Some (pos 1)) ∷ [])
all_seven_operations =
    (simp (at_insert, at_remove, at_empty), simp (at_insert, at_remove, at_empty))

-- ---- commands one after another

commands_see_what_was_left : (execute
    ((Put b (pos 3) ∷ []) ∷ (Is a None ∷ Copy a b ∷ Get b ∷ []) ∷ []) nothing).replies
    ≡ Values [] ∷ Values (None ∷ []) ∷ []
commands_see_what_was_left = simp (at_insert, at_remove, at_empty)

an_aborted_command_leaves_nothing : (execute
    ((Put a (pos 1) ∷ Floor a (pos 2) ∷ []) ∷ (Get a ∷ []) ∷ []) nothing).replies
    ≡ Abort 1 ∷ Values (None ∷ []) ∷ []
an_aborted_command_leaves_nothing = simp (at_insert, at_empty)

-- ---- keys

a_copy_touches_both_keys_and_writes_one : (touched_keys (Copy b a ∷ Get b ∷ []) ≡ a ∷ b ∷ [])
    × (written_keys (Copy b a ∷ Get b ∷ []) ≡ a ∷ [])
a_copy_touches_both_keys_and_writes_one = (refl, refl)

keys_of_an_abort_count : (touched_keys (Floor a (pos 9) ∷ Put b (pos 1) ∷ []) ≡ a ∷ b ∷ [])
    × (written_keys (Floor a (pos 9) ∷ Put b (pos 1) ∷ []) ≡ b ∷ [])
keys_of_an_abort_count = (refl, refl)
