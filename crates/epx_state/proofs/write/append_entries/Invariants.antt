use Rattle.std.proofs.Common.{◌≡◌, ◌++◌, flat_map, map, take, drop}
use Rattle.epx_types.proofs.Common.{All}
use Rattle.epx_state.specs.StateForms.{entry_line}
use Rattle.epx_state.specs.inner.WrittenLines.{IsReadEntry}
use Rattle.epx_state.proofs.write.append_entries.Given as goal

abbrev pub invariant-loop-entry : goal.invariant-loop-entry
invariant-loop-entry l = record {
  text : l.text.items
      ++ flat_map entry_line (map (λ e. e.now) (drop l.entry-index l.entries))
      ≡ l.fn.text.items ++ flat_map entry_line (map (λ e. e.now) l.entries);
  read : All (λ e. IsReadEntry e.now) (take l.entry-index l.entries);
}
