use Rattle.std.proofs.Common.{◌≡◌, map, drop}
use Rattle.std.specs.FinMap as contents
use Rattle.epx_types.proofs.Common.{write_all}
use Rattle.epx_store.proofs.few_writes.FewWrites.tree.Given as goal

abbrev pub invariant-loop-key : goal.invariant-loop-key
invariant-loop-key l = write_all contents.insert
    (map (λ p. (p.0.now, p.1)) (drop l.key-index l.key-items)) l.tree
    ≡ contents.from_entries (map (λ p. (p.0.now, p.1)) l.key-items)
