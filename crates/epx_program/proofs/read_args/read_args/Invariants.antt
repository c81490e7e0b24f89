use Rattle.std.proofs.Common.{◌≡◌, ◌++◌, map, take, string_bytes}
use Rattle.std.specs.Vec.Iter.{into_iter_items}
use Rattle.epx_program.specs.Calls.{AreTakenFor}
use Rattle.epx_program.proofs.read_args.read_args.Given as goal

-- the words read so far, and those left to read
abbrev pub invariant-loop-word : goal.invariant-loop-word
invariant-loop-word l = AreTakenFor l.fn.words
    (map string_bytes l.owned.items ++ map string_bytes (into_iter_items l.word-iterator))

abbrev pub invariant-loop-text : goal.invariant-loop-text
invariant-loop-text l = map (λ t. t.now) l.texts.items
    ≡ map string_bytes (take l.text-index l.text-items)
