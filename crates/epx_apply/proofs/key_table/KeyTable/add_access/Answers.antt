use Rattle.std.proofs.Common.{◌≡◌, ◌++◌, ◌∷◌, [], true, false, sym, subst, ◌∙◌}
use Rattle.epx_types.proofs.Common.{list_any}
use Rattle.epx_apply.specs.between.KeyTables.{KeyTableView, IsKeyTableOf}
use Rattle.epx_apply.proofs.KeyNumberLemmas.{texts_of, same_text, not-flip, IsKeyTableOf-new_key}
use Rattle.epx_apply.proofs.KeyNumberLemmas.{IsKeyTableOf-known_key}
use Rattle.epx_apply.proofs.key_table.KeyTable.add_access.Goals as goal
use Rattle.epx_apply.proofs.key_table.KeyTable.add_access.Goals.{then-is_new+in_ok-push}
use Rattle.epx_apply.proofs.key_table.KeyTable.add_access.Goals.{else-is_new}

pub returns : goal.returns
returns c done current is =
    let ks = c.self.inside.keys.keys in
    let ks' = c.insert_full.new.self.keys in
    let key_levels = c.self.inside.key_levels.items in
    let accesses = c.self.inside.accesses.items in
    let key = c.args.key.now in
    let n = c.in_ok-number.number in
    let before : IsKeyTableOf done current
    (record { keys = texts_of ks; key_levels = key_levels; accesses = accesses }) =
    subst (IsKeyTableOf done current) (sym c.self.view_is) is in
    let T : KeyTableView → Type 0 = IsKeyTableOf done (current ++ (key, c.args.writes) ∷ []) in
    elim c.if-is_new.branch [
      | then-is_new+in_ok-push w ↦
          let none : list_any (same_text c.text.result) ks ≡ false =
          not-flip (list_any (same_text c.text.result) ks) true
          (sym c.in_ok-number.ensures.added ∙ w.if-is_new.true) in
          rw (c.in_ok-push-2.ensures.items, w.self-inside-is, w.in_ok-push.ensures.items)
          (IsKeyTableOf-new_key done current ks ks' key_levels accesses c.text.result key
          c.args.writes n
          c.text.ensures.text before c.in_ok-number.ensures.keys c.in_ok-number.ensures.stored
          none)
      | else-is_new w ↦
          let found : list_any (same_text c.text.result) ks ≡ true =
          not-flip (list_any (same_text c.text.result) ks) false
          (sym c.in_ok-number.ensures.added ∙ w.if-is_new.false) in
          rw (c.in_ok-push-2.ensures.items, w.self-inside-is)
          (IsKeyTableOf-known_key done current ks ks' key_levels accesses c.text.result key
          c.args.writes n
          c.text.ensures.text before c.in_ok-number.ensures.keys c.in_ok-number.ensures.stored
          found)
    ]
