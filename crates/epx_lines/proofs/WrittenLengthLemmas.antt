-- A written line is short.
use Rattle.std.proofs.Common.{ℕ, suc, ◌+◌, ◌*◌, ◌≤◌, Bool, true, false, List, [], ◌∷◌, ◌++◌, length}
use Rattle.std.proofs.Common.{map, All, codes, arith, length-append, lit<}
use Rattle.epx_types.proofs.Common.{length-decimal-le, Instance}
use Rattle.serde_json.specs.Data.{Data, number, unsigned, array, Members, member, no_members}
use Rattle.serde_json.specs.View.{items_of}
use Rattle.serde_json.specs.Written.{compact_text, items_text, members_text, comma_if}
use Rattle.epx_lines.specs.Meaning.{max_line_bytes}
use Rattle.epx_lines.specs.Text.{data_of_id, data_of_op, line_text}
use Rattle.epx_lines.specs.inner.WrittenParts.{IsWritableId, IsWritableOp, FitNumbers}
use Rattle.json.specs.Print.{quoted, escape_byte}

length-comma_if : (later : Bool) → length (comma_if later) ≤ 1
length-comma_if true = omega arith
length-comma_if false = omega arith

-- short elements make a short array
pub length-items_text : {A : Type 0} (f : A → Data) (m : ℕ) (later : Bool) (xs : List A)
    → All (λ x. length (compact_text (f x)) ≤ m) xs
    → length (items_text later (items_of (map f xs))) ≤ (m + 1) * length xs + 1
length-items_text f m later [] h = omega arith
length-items_text f m later (x ∷ xs) h =
    let more = length-items_text f m true xs (λ k d l. h (suc k) d (omega arith)) in
    let here = h 0 x (omega arith) in
    let one = length-append (comma_if later)
    (compact_text (f x) ++ items_text true (items_of (map f xs))) in
    let two = length-append (compact_text (f x)) (items_text true (items_of (map f xs))) in
    omega (arith, one, two, length-comma_if later, more, here)

length-members_text : (later : Bool) (k : List ℕ) (d : Data) (ms : Members)
    → length (members_text later (member k d ms)) ≤ length (quoted k) + length (compact_text d)
    + length (members_text true ms) + 2
length-members_text later k d ms =
    let value = compact_text d ++ members_text true ms in
    omega (
      arith,
      length-append (comma_if later) (quoted k ++ 58 ∷ value),
      length-append (quoted k) (58 ∷ value),
      length-append (compact_text d) (members_text true ms),
      length-comma_if later,
    )

-- the line of an entry whose parts are short
pub length-line_text : (e : Instance) → FitNumbers e.id.replica e.id.number e.seq
    → length e.deps ≤ 256 → length e.ops ≤ 64 → All IsWritableId e.deps → All IsWritableOp e.ops
    → length (line_text e) ≤ max_line_bytes
unfolding escape_byte
length-line_text e numbers few_deps few_ops deps ops =
    let seq = member (codes "seq") (number (unsigned e.seq)) no_members in
    let replica = member (codes "r") (number (unsigned e.id.replica)) seq in
    let written = member (codes "ops") (array (items_of (map data_of_op e.ops))) replica in
    let named = member (codes "i") (number (unsigned e.id.number)) written in
    let of_deps = length-items_text data_of_id 26 false e.deps (λ k d l. (deps k d l).short) in
    let of_ops = length-items_text data_of_op 782 false e.ops (λ k d l. (ops k d l).short) in
    omega (
      arith,
      of_deps,
      of_ops,
      length-members_text false (codes "deps") (array (items_of (map data_of_id e.deps))) named,
      length-members_text true (codes "i") (number (unsigned e.id.number)) written,
      length-members_text true (codes "ops") (array (items_of (map data_of_op e.ops))) replica,
      length-members_text true (codes "r") (number (unsigned e.id.replica)) seq,
      length-members_text true (codes "seq") (number (unsigned e.seq)) no_members,
      length-decimal-le 20 e.id.number (lit< tt) (omega arith) numbers.number_fits,
      length-decimal-le 3 e.id.replica (lit< tt) (omega arith)
          (omega (arith, numbers.replica_fits)),
      length-decimal-le 20 e.seq (lit< tt) (omega arith) numbers.seq_fits,
    )
