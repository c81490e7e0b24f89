use Rattle.std.proofs.Common.{◌∷◌, ◌++◌, [], sym, ap, ◌∙◌, subst}
use Rattle.epx_types.proofs.Common.{on_ok_weaker, access_of, accesses_in}
use Rattle.epx_apply.specs.between.KeyTables.{IsKeyTableOf}
use Rattle.epx_apply.specs.inner.LevelTables.{AddsAccesses}
use Rattle.epx_apply.proofs.KeyTableLemmas.{AddsAccesses-append}
use Rattle.epx_apply.proofs.key_table.KeyTable.add_accesses.Goals as goal

pub returns-in-Some : goal.returns-in-Some
returns-in-Some c =
    let first = c.accesses.result.0 in
    let both = c.accesses.ensures ∙ ap (accesses_in first) c.in-Some.is in
    on_ok_weaker c.add_access-in-Some.result (λ second.
    subst (λ l. AddsAccesses l c.args.self.now c.add_access-in-Some.new.self) (sym both)
    (AddsAccesses-append (access_of first ∷ []) (access_of c.in-Some.access ∷ []) c.args.self.now
    c.add_access.new.self c.add_access-in-Some.new.self c.in_ok-add_access.ensures second))
    c.add_access-in-Some.ensures

pub returns-in-None : goal.returns-in-None
returns-in-None c done current is =
    let one = c.accesses.ensures ∙ ap (accesses_in c.accesses.result.0) c.in-None.is in
    subst (λ l. IsKeyTableOf done (current ++ l) c.add_access.new.self) (sym one)
    (c.in_ok-add_access.ensures done current is)
