use Rattle.std.proofs.Common.{◌∙◌, ◌+◌, List, map, fold, sym, ap₂, subst, flat_map, arith}
use Rattle.epx_types.proofs.Common.{with_items_is, accesses_of}
use Rattle.epx_apply.specs.declared.key_table.TableAccess.{TableAccess}
use Rattle.epx_apply.specs.declared.key_table.KeyLevels.{KeyLevels}
use Rattle.epx_apply.specs.between.KeyTables.{KeyTableView, IsKeyTableOf}
use Rattle.epx_apply.specs.inner.LevelTables.{raise}
use Rattle.epx_apply.proofs.KeyTableLemmas.{keys-within, IsKeyTableOf-noted}
use Rattle.epx_apply.proofs.key_table.KeyTable.note.Goals as goal

pub raise_levels-requires : goal.raise_levels-requires
raise_levels-requires c =
    let t : KeyTableView = record {
      keys = map (λ k. k.now) c.self.inside.keys.keys;
      key_levels = c.self.inside.key_levels.items;
      accesses = c.self.inside.accesses.items;
    } in
    let done = c.requires.collected.0 in
    let current = flat_map accesses_of c.requires.collected.1 in
    let is = subst (IsKeyTableOf done current) (sym c.self.view_is) c.requires.collected.2 in
    rw (c.deref_mut.ensures.value, c.deref.ensures.value) (keys-within done current t is)

pub returns : goal.returns
returns c done ops before =
    let t : KeyTableView = record {
      keys = map (λ k. k.now) c.self.inside.keys.keys;
      key_levels = c.self.inside.key_levels.items;
      accesses = c.self.inside.accesses.items;
    } in
    let is = subst (IsKeyTableOf done (flat_map accesses_of ops)) (sym c.self.view_is) before in
    let key_levels = c.raise_levels.ensures ∙ ap₂
    (λ (key_levels : List KeyLevels) (accesses : List TableAccess).
    fold (raise (c.args.number + 1)) key_levels accesses) c.deref_mut.ensures.value
    c.deref.ensures.value in
    let written = with_items_is c.self.inside.key_levels c.raise_levels.new.key_levels
    (omega (arith, c.raise_levels.auto.key_levels, c.deref_mut.ensures.len)) in
    rw (written, c.clear.ensures.items)
    (IsKeyTableOf-noted done ops t is c.args.number c.raise_levels.new.key_levels key_levels)
