use Rattle.std.proofs.Common.{◌≡◌, take}
use Rattle.std.specs.Str.Parse.{AllDigits, digits_value}
use Rattle.epx_lines.proofs.digits.read_digits.Given as goal

abbrev pub invariant-loop-byte : goal.invariant-loop-byte
invariant-loop-byte l = record {
  all_digits : AllDigits 10 (take l.byte-index l.bytes);
  value : digits_value 10 (take l.byte-index l.bytes) ≡ l.number;
}
