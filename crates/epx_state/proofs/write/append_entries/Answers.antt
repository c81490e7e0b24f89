use Rattle.std.proofs.Common.{Bor, arith, subst, take_all}
use Rattle.epx_types.proofs.Common.{All, Instance, common_steps}
use Rattle.std.proofs.lemmas.List.Elements.{All-more}
use Rattle.epx_state.specs.inner.WrittenLines.{IsReadEntry}
use Rattle.epx_state.proofs.write.append_entries.Goals as goal

pub loop-entry-preserved : goal.loop-entry-preserved
loop-entry-preserved c = record {
  text = grind (
    arith,
    common_steps,
    c.loop-entry.invariant.text,
    c.in_ok-append_entry.ensures.text,
  );
  read = All-more (λ (e : Bor Instance). IsReadEntry e.now) c.args.entries.now
      c.loop-entry.entry-index c.entry-item.result (omega arith) c.loop-entry.invariant.read
      (subst (λ (e : Bor Instance). IsReadEntry e.now) c.entry-item.is
      c.in_ok-append_entry.ensures.read);
}

pub returns-clause-read : goal.returns-clause-read
returns-clause-read c = subst (All (λ (e : Bor Instance). IsReadEntry e.now))
    (take_all c.loop-entry.entry-index c.args.entries.now (omega arith))
    c.loop-entry.invariant.read
