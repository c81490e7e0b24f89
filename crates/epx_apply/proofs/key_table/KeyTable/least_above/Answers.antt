use Rattle.std.proofs.Common.{◌∙◌, max, List, map, fold, sym, ap₂, subst, flat_map}
use Rattle.epx_types.proofs.Common.{accesses_of}
use Rattle.epx_apply.specs.declared.key_table.TableAccess.{TableAccess}
use Rattle.epx_apply.specs.declared.key_table.KeyLevels.{KeyLevels}
use Rattle.epx_apply.specs.between.KeyTables.{KeyTableView, IsKeyTableOf, IsLeastAbove}
use Rattle.epx_apply.specs.inner.LevelTables.{level_for}
use Rattle.epx_apply.proofs.KeyTableLemmas.{AddsAccesses-nil, AddsAccesses-take_more}
use Rattle.epx_apply.proofs.KeyTableLemmas.{IsKeyTableOf-all_accesses, keys-within}
use Rattle.epx_apply.proofs.KeyTableLemmas.{IsLeastAbove-fold}
use Rattle.epx_apply.proofs.key_table.KeyTable.least_above.Goals as goal

pub loop-op-init : goal.loop-op-init
loop-op-init c = AddsAccesses-nil c.args.self.now

pub loop-op-preserved : goal.loop-op-preserved
loop-op-preserved c =
    AddsAccesses-take_more c.args.ops.now c.loop-op.op-index c.op-item.result c.args.self.now
    c.loop-op.self c.add_accesses.new.self c.loop-op-test.true c.op-item.is c.loop-op.invariant
    c.in_ok-add_accesses.ensures

pub least_level-requires : goal.least_level-requires
least_level-requires c =
    let t : KeyTableView = record {
      keys = map (λ k. k.now) c.self.inside.keys.keys;
      key_levels = c.self.inside.key_levels.items;
      accesses = c.self.inside.accesses.items;
    } in
    let is = subst (IsKeyTableOf c.requires.0 (flat_map accesses_of c.args.ops.now))
    (sym c.self.view_is)
    (IsKeyTableOf-all_accesses c.args.ops.now c.loop-op.op-index c.args.self.now
    c.loop-op.self c.loop-op-test.false c.loop-op.invariant c.requires.0 c.requires.1) in
    rw (c.deref.ensures.value, c.deref-2.ensures.value)
    (keys-within c.requires.0 (flat_map accesses_of c.args.ops.now) t is)

pub returns : goal.returns
returns c done before =
    let t : KeyTableView = record {
      keys = map (λ k. k.now) c.self.inside.keys.keys;
      key_levels = c.self.inside.key_levels.items;
      accesses = c.self.inside.accesses.items;
    } in
    let current = flat_map accesses_of c.args.ops.now in
    let is = subst (IsKeyTableOf done current) (sym c.self.view_is)
    (IsKeyTableOf-all_accesses c.args.ops.now c.loop-op.op-index c.args.self.now c.loop-op.self
    c.loop-op-test.false c.loop-op.invariant done before) in
    let level = c.least_level.ensures ∙ ap₂
    (λ (key_levels : List KeyLevels) (accesses : List TableAccess).
    fold (λ level a. max level (level_for key_levels a)) 0 accesses) c.deref.ensures.value
    c.deref-2.ensures.value in (
      subst (IsLeastAbove done c.args.ops.now) (sym level)
          (IsLeastAbove-fold done c.args.ops.now t is),
      subst (IsKeyTableOf done current) c.self.view_is is,
    )
