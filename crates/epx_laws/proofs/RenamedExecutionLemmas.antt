-- Renamed commands over renamed contents: their replies, and the contents that they leave.
use Rattle.std.proofs.Common.{◌≡◌, ℕ, suc, ℤ, Bool, true, false, List, [], ◌∷◌, ◌++◌, map, Contains}
use Rattle.std.proofs.Common.{Option, Some, None, refl, sym, ap, ◌∙◌, if◌then◌else◌}
use Rattle.std.specs.FinMap as contents
use Rattle.epx_types.proofs.Common.{map-append, Contents, assign, same_value, operate, Outcome}
use Rattle.epx_types.proofs.Common.{unless_aborted, operate_all, command_on, Execution, execute}
use Rattle.epx_types.proofs.Common.{Contains-head, Contains-cons}
use Rattle.epx_types.specs.declared.op.Op.{Op}
use Rattle.epx_types.specs.declared.op.Op.TheVariants.{Get, Put, Del, Add, Is, Floor, Copy}
use Rattle.epx_laws.specs.Renaming.{Renaming, renamed_value, renamed_op, renamed_command}
use Rattle.epx_laws.specs.Renaming.{renamed_commands, renamed_reply, renamed_contents}
use Rattle.epx_laws.specs.Renaming.{renamed_execution, is_arithmetic, HasNoArithmetic}
use Rattle.epx_laws.proofs.RenamedContentsLemmas.{same_value-renamed, get-renamed, assign-renamed}

module _ (r : Renaming) where
  -- ---- operations

  abbrev Effect : Type 0
  Effect = Option (Contents × List (Option ℤ))

  abbrev renamed_effect : Effect → Effect
  renamed_effect None = None
  renamed_effect (Some e) = Some (renamed_contents r e.0, map (renamed_value r) e.1)

  -- an operation that goes through if a test holds
  effect_where : (t u : Bool) (e : Contents × List (Option ℤ)) → t ≡ u
      → (if t then Some (renamed_contents r e.0, map (renamed_value r) e.1) else None)
      ≡ renamed_effect (if u then Some e else None)
  effect_where true true e same = refl
  effect_where true false e same = absurd (cc same)
  effect_where false true e same = absurd (cc same)
  effect_where false false e same = refl

  operate-renamed : (op : Op) (c : Contents) → is_arithmetic op ≡ false
      → operate (renamed_op r op) (renamed_contents r c) ≡ renamed_effect (operate op c)
  operate-renamed (Get k) c plain =
      ap (λ v. Some (renamed_contents r c, v ∷ [])) (get-renamed r c k)
  operate-renamed (Put k v) c plain = ap (λ d. Some (d, [])) (assign-renamed r c k (Some v))
  operate-renamed (Del k) c plain = ap (λ d. Some (d, [])) (assign-renamed r c k None)
  operate-renamed (Add k n) c plain = absurd (cc plain)
  operate-renamed (Is k v) c plain =
      effect_where (same_value (contents.get (renamed_contents r c) (r.key k)) (renamed_value r v))
      (same_value (contents.get c k) v) (c, [])
      (ap (λ w. same_value w (renamed_value r v)) (get-renamed r c k)
      ∙ same_value-renamed r (contents.get c k) v)
  operate-renamed (Floor k least) c plain = absurd (cc plain)
  operate-renamed (Copy k j) c plain =
      ap (λ d. Some (d, []))
      (ap (λ v. assign (renamed_contents r c) (r.key j) v) (get-renamed r c k)
      ∙ assign-renamed r c j (contents.get c k))

  -- ---- commands

  abbrev pub renamed_outcome : Outcome → Outcome
  renamed_outcome o =
      record { reply = renamed_reply r o.reply; after = renamed_contents r o.after }

  unless_aborted-renamed : (before : Contents) (j : ℕ) (o : Effect)
      (proceed proceed' : Contents × List (Option ℤ) → Outcome)
      → ((e : Contents × List (Option ℤ))
      → proceed' (renamed_contents r e.0, map (renamed_value r) e.1)
      ≡ renamed_outcome (proceed e))
      → unless_aborted (renamed_contents r before) j (renamed_effect o) proceed'
      ≡ renamed_outcome (unless_aborted before j o proceed)
  unless_aborted-renamed before j None proceed proceed' on = refl
  unless_aborted-renamed before j (Some e) proceed proceed' on = on e

  operate_all-renamed : (before : Contents) (j : ℕ) (ops : List Op) (c : Contents)
      (got : List (Option ℤ)) → HasNoArithmetic ops
      → operate_all (renamed_contents r before) j (renamed_command r ops) (renamed_contents r c)
      (map (renamed_value r) got)
      ≡ renamed_outcome (operate_all before j ops c got)
  operate_all-renamed before j [] c got plain = refl
  operate_all-renamed before j (op ∷ ops) c got plain =
      let on : Contents × List (Option ℤ) → Outcome =
      λ e. operate_all (renamed_contents r before) (suc j) (renamed_command r ops) e.0
      (map (renamed_value r) got ++ e.1) in
      ap (λ o. unless_aborted (renamed_contents r before) j o on)
      (operate-renamed op c (plain op (Contains-head op ops)))
      ∙ unless_aborted-renamed before j (operate op c)
      (λ e. operate_all before (suc j) ops e.0 (got ++ e.1)) on
      (λ e. ap (operate_all (renamed_contents r before) (suc j) (renamed_command r ops)
      (renamed_contents r e.0)) (sym (map-append (renamed_value r) got e.1))
      ∙ operate_all-renamed before (suc j) ops e.0 (got ++ e.1)
      (λ o h. plain o (Contains-cons op ops o h)))

  pub command_on-renamed : (ops : List Op) (c : Contents) → HasNoArithmetic ops
      → command_on (renamed_command r ops) (renamed_contents r c)
      ≡ renamed_outcome (command_on ops c)
  command_on-renamed ops c plain = operate_all-renamed c 0 ops c [] plain

  -- ---- lists of commands

  abbrev then_execution : Outcome → Execution → Execution
  then_execution o e = record { replies = o.reply ∷ e.replies; final = e.final }

  pub execute-renamed : (commands : List (List Op))
      → ((ops : List Op) → Contains commands ops → HasNoArithmetic ops) → (c : Contents)
      → execute (renamed_commands r commands) (renamed_contents r c)
      ≡ renamed_execution r (execute commands c)
  execute-renamed [] plain c = refl
  execute-renamed (ops ∷ rest) plain c =
      ap (λ (o : Outcome). then_execution o (execute (renamed_commands r rest) o.after))
      (command_on-renamed ops c (plain ops (Contains-head ops rest)))
      ∙ ap (then_execution (renamed_outcome (command_on ops c)))
      (execute-renamed rest (λ ops' h. plain ops' (Contains-cons ops rest ops' h))
      (command_on ops c).after)
