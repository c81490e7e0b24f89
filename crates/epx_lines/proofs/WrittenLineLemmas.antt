-- The line that is written for an entry means that entry.
use Rattle.std.proofs.Common.{◌≡◌, ℕ, suc, ◌^◌, ◌≤◌, nat_lt, false, List, [], ◌∷◌, length, map, All}
use Rattle.std.proofs.Common.{Contains, Option, Some, None, Ok, refl, ap, subst, arith}
use Rattle.epx_types.proofs.Common.{nat_tests, IsRising, Instance, IsWellFormed}
use Rattle.epx_types.specs.declared.id.Id.{Id}
use Rattle.epx_types.specs.declared.op.Op.{Op}
use Rattle.epx_types.specs.declared.op.Op.TheVariants.{Get, Put, Del, Add, Is, Floor, Copy}
use Rattle.std.specs.Str.{IsUtf8}
use Rattle.serde_json.specs.Data.{Data, array, depth, items_depth}
use Rattle.serde_json.specs.Read.{max_depth, read}
use Rattle.serde_json.specs.View.{items_of}
use Rattle.epx_lines.specs.declared.Line.TheVariants.{Entry}
use Rattle.epx_lines.specs.Meaning.{is_blank, max_line_bytes, meaning_of_object, meaning_of}
use Rattle.epx_lines.specs.Elements.{list_of, every}
use Rattle.epx_lines.specs.DependencyList.{id_of, deps_of}
use Rattle.epx_lines.specs.OperationList.{op_of, ops_of}
use Rattle.epx_lines.specs.Text.{data_of_id, data_of_op, object_of, line_text}
use Rattle.epx_lines.specs.inner.WrittenParts.{IsWritableId, IsWritableOp, FitNumbers}
use Rattle.epx_lines.specs.inner.WrittenParts.{IsWritableEntry}
use Rattle.epx_lines.proofs.ElementLemmas.{at_most-within}
use Rattle.epx_lines.proofs.JsonTextLemmas.{json_of-some}
use Rattle.epx_lines.proofs.WrittenPartLemmas.{whole-fits}
use Rattle.epx_lines.proofs.WrittenLengthLemmas.{length-line_text}
use Rattle.epx_lines.proofs.OtherIdLemmas.{rising_others-same}

-- ---- nesting

depth-op : (op : Op) → depth (data_of_op op) ≤ 1
unfolding data_of_op
depth-op (Get k) = omega arith
depth-op (Put k v) = omega arith
depth-op (Del k) = omega arith
depth-op (Add k n) = omega arith
depth-op (Is k None) = omega arith
depth-op (Is k (Some v)) = omega arith
depth-op (Floor k v) = omega arith
depth-op (Copy k j) = omega arith

items_depth-mapped : {A : Type 0} (f : A → Data) → ((x : A) → depth (f x) ≤ 1) → (xs : List A)
    → items_depth (items_of (map f xs)) ≤ 1
items_depth-mapped f h [] = omega arith
items_depth-mapped f h (x ∷ xs) = omega (arith, h x, items_depth-mapped f h xs)

depth-object_of : (e : Instance) → depth (object_of e) ≤ max_depth
depth-object_of e =
    omega (
      arith,
      items_depth-mapped data_of_id (λ x. omega arith) e.deps,
      items_depth-mapped data_of_op depth-op e.ops,
    )

-- the written object reads as that object
pub read-object : (e : Instance) (text : List ℕ) (d : Data) → d ≡ object_of e
    → (depth d ≤ max_depth → read text ≡ Some d) → read text ≡ Some (object_of e)
read-object e text d is reads =
    let P : Data → Type 0 = λ d. depth d ≤ max_depth → read text ≡ Some d in
    subst P is reads (depth-object_of e)

-- ---- the lists of the line

every-mapped : {A : Type 0} (f : Data → Option A) (g : A → Data) (xs : List A)
    → All (λ x. f (g x) ≡ Some x) xs → every f (list_of (items_of (map g xs))) ≡ Some xs
every-mapped f g [] h = refl
every-mapped f g (x ∷ xs) h =
    rw (h 0 x (omega arith), every-mapped f g xs (λ k d l. h (suc k) d (omega arith)))

length-mapped : {A : Type 0} (g : A → Data) (xs : List A)
    → length (list_of (items_of (map g xs))) ≡ length xs
length-mapped g [] = refl
length-mapped g (x ∷ xs) = ap suc (length-mapped g xs)

deps_of-written : (self : Id) (deps : List Id) → IsRising deps → ¬ Contains deps self
    → length deps ≤ 256 → All IsWritableId deps
    → deps_of self (array (items_of (map data_of_id deps))) ≡ Some deps
unfolding deps_of
deps_of-written self deps rising lacks few fit =
    rw (
      at_most-within 256 (list_of (items_of (map data_of_id deps)))
          (omega (arith, length-mapped data_of_id deps)),
      every-mapped id_of data_of_id deps (λ k d l. (fit k d l).reads),
    )
    (ap Some (rising_others-same self deps rising lacks))

ops_of-written : (ops : List Op) → length ops ≤ 64 → All IsWritableOp ops
    → ops_of (array (items_of (map data_of_op ops))) ≡ Some ops
unfolding ops_of
ops_of-written ops few fit =
    rw (
      at_most-within 64 (list_of (items_of (map data_of_op ops)))
          (omega (arith, length-mapped data_of_op ops)),
      every-mapped op_of data_of_op ops (λ k d l. (fit k d l).reads),
    )

-- ---- the line

pub IsWritableEntry-from_parts : (e : Instance) → IsWellFormed e
    → FitNumbers e.id.replica e.id.number e.seq → All IsWritableId e.deps → All IsWritableOp e.ops
    → IsWritableEntry e
unfolding meaning_of_object
IsWritableEntry-from_parts e formed numbers deps ops = record {
  reads = rw (
    whole-fits 256 e.id.replica numbers.replica_fits,
    whole-fits (2 ^ 64) e.id.number numbers.number_fits,
    whole-fits (2 ^ 64) e.seq numbers.seq_fits,
    deps_of-written e.id e.deps formed.rising formed.not_itself formed.few_deps deps,
    ops_of-written e.ops formed.few_ops ops,
  );
  short = length-line_text e numbers formed.few_deps formed.few_ops deps ops;
}

not_too_long : (text : List ℕ) → length text ≤ max_line_bytes
    → nat_lt max_line_bytes (length text) ≡ false
not_too_long text h = grind (arith, nat_tests)

pub meaning_of-written : (e : Instance) (text : List ℕ) → IsUtf8 text
    → read text ≡ Some (object_of e) → text ≡ line_text e → IsWritableEntry e
    → meaning_of text ≡ Ok (Entry e)
meaning_of-written e text utf8 reads is fits =
    let no_blank : is_blank text ≡ false = ap is_blank is in
    let short : length text ≤ max_line_bytes = rw is fits.short in
    rw (no_blank, not_too_long text short, json_of-some text (object_of e) (utf8, reads))
    fits.reads
