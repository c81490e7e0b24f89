use Rattle.std.proofs.Common.{◌≡◌, ◌∷◌, Some, option_map, w64, to_z, of_z, sym, ap, ◌∙◌, arith}
use Rattle.std.proofs.Common.{rules}
use Rattle.json.specs.Token.{Token}
use Rattle.json.specs.Reads.{token_of}
use Rattle.serde_json.specs.Data.{number, string}
use Rattle.serde_json.specs.Find.{of_integer}
use Rattle.epx_types.proofs.Common.{FitsKey}
use Rattle.epx_lines.specs.OperationList.{op_with_value}
use Rattle.epx_lines.proofs.WrittenPartLemmas.{IsWritableValue-from_range, key_of-fits}
use Rattle.epx_lines.proofs.TokenValueLemmas.{ReadsValue-number, ReadsValue-string}
use Rattle.epx_lines.proofs.TokenValueLemmas.{ReadsValue-null, ParsesTo-found}
use Rattle.epx_lines.proofs.from_tokens.take_op_with.Goals as goal

pub returns-in_ok-read_signed-in-Number : goal.returns-in_ok-read_signed-in-Number
returns-in_ok-read_signed-in-Number c =
    let first : c.args.reader.now ≡ token_of c.in_ok-text.field-0 ∷ c.next.new.self =
    grind arith in
    let is : c.args.reader.now ≡ Token.number c.in-Number.text.now ∷ c.next.new.self =
    grind (arith, first) in
    let z = c.in_ok-read_signed-in-Number.field-0 in
    let d = number (of_integer z) in
    let same : to_z w64 (of_z w64 z) ≡ z = search rules in
    let reads = IsWritableValue-from_range z (search rules) in
    let op = c.op_with_number.ensures d (reads.reads ∙ ap Some (sym same)) in
    rw is (ParsesTo-found 0 (op_with_value c.args.name.now c.args.key) _ _ d _
    (ReadsValue-number c.in-Number.text.now d _
    (ap (option_map number) c.in_ok-read_signed-in-Number.ensures)) op)

pub returns-in_ok-branch-in-String : goal.returns-in_ok-branch-in-String
returns-in_ok-branch-in-String c =
    let first : c.args.reader.now ≡ token_of c.in_ok-text.field-0 ∷ c.next.new.self =
    grind arith in
    let is : c.args.reader.now ≡ Token.string c.in-String.text.now ∷ c.next.new.self =
    grind (arith, first) in
    let s = c.in-String.text.now in
    let fits : FitsKey s = search rules in
    let same : c.in_ok-branch-in-String.field-0 ≡ s = search rules in
    let op = c.op_with_target.ensures (string s) (rw same (key_of-fits s fits)) in
    rw is (ParsesTo-found 0 (op_with_value c.args.name.now c.args.key) _ _ (string s) _
    (ReadsValue-string s _) op)

pub returns-in-Null : goal.returns-in-Null
returns-in-Null c =
    let first : c.args.reader.now ≡ token_of c.in_ok-text.field-0 ∷ c.next.new.self =
    grind arith in
    let is : c.args.reader.now ≡ Token.null ∷ c.next.new.self = grind (arith, first) in
    rw is (ParsesTo-found 0 (op_with_value c.args.name.now c.args.key) _ _ _ _ (ReadsValue-null _)
    c.op_with_absence.ensures)
