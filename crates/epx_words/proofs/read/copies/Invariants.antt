use Rattle.std.proofs.Common.{◌≡◌, map, take}
use Rattle.epx_types.proofs.Common.{string_bytes}
use Rattle.epx_words.proofs.read.copies.Given as goal

abbrev pub invariant-loop-text : goal.invariant-loop-text
invariant-loop-text l = map string_bytes l.copies.items
    ≡ map (λ t. t.now) (take l.text-index l.texts)
