-- The operations of a command in order, with their writes in a draft.
use Rattle.std.proofs.Common.{◌≡◌, ℕ, suc, ℤ, ◌+◌, ◌<◌, ◌≤◌, ◌∙◌, sym, ap, List, [], ◌∷◌, ◌++◌}
use Rattle.std.proofs.Common.{length, map, flat_map, get_or, drop, append-nil, add-one, Option}
use Rattle.std.proofs.Common.{Some, subst}
use Rattle.std.specs.FinMap as contents
use Rattle.epx_types.proofs.Common.{entries_sorted, add_keys, Contents, Outcome, unless_aborted}
use Rattle.epx_types.proofs.Common.{operate_all, command_on, operate, written_by, written_keys}
use Rattle.epx_types.proofs.Common.{writes_by, writes_of, apply_writes, entries-empty}
use Rattle.epx_types.proofs.Common.{add_keys-append, apply_writes-read_back, drop_all}
use Rattle.epx_types.specs.declared.op.Op.{Op}
use Rattle.epx_types.specs.declared.reply.Reply.TheVariants as reply
use Rattle.epx_store.proofs.DropLemmas.{drop-at_index}
use Rattle.epx_txn.specs.declared.draft.Step.TheVariants.{Read, Done, Abort}
use Rattle.epx_txn.specs.inner.Drafts.{Draft, contents_through, IsStepOf, AddsKeys}

-- the operations before index i are done; d has their writes and `got` the values that they read
pub record IsDoneUpTo (ops : List Op) (c : Contents) (i : ℕ) (d : Draft)
    (got : List (Option ℤ)) : Type 0 where
  pub run : operate_all c i (drop i ops) (contents_through d c) got ≡ command_on ops c
  pub keys : add_keys (contents.keys d) (flat_map written_by (drop i ops)) ≡ written_keys ops

pub IsDoneUpTo-start : (ops : List Op) (c : Contents) → IsDoneUpTo ops c 0 contents.empty []
IsDoneUpTo-start ops c =
    record {
      run = ap (λ ws. operate_all c 0 ops (apply_writes ws c) []) entries-empty;
      keys = ap (λ es. add_keys (map (λ e. e.0) es) (flat_map written_by ops)) entries-empty;
    }

-- the keys that an operation writes
keys_step : (op : Op) (rest : List Op) (d e : Draft) → AddsKeys op d e
    → add_keys (contents.keys e) (flat_map written_by rest)
    ≡ add_keys (contents.keys d) (flat_map written_by (op ∷ rest))
keys_step op rest d e h =
    ap (λ ks. add_keys ks (flat_map written_by rest)) h
    ∙ sym (add_keys-append (contents.keys d) (written_by op) (flat_map written_by rest))

module _ (ops : List Op) (c : Contents) (i : ℕ) (d e : Draft) (got : List (Option ℤ)) (op : Op)
    (before : IsDoneUpTo ops c i d got) (within : i < length ops)
    (here : op ≡ get_or ops i op) where
  -- the remaining operations begin with this one
  first : drop i ops ≡ op ∷ drop (i + 1) ops
  first = drop-at_index ops i op within here

  -- the loop goes on after the operation
  abbrev proceeds : Option (Contents × List (Option ℤ)) → Outcome
  proceeds o = unless_aborted c i o
      (λ r. operate_all c (suc i) (drop (i + 1) ops) r.0 (got ++ r.1))

  run_from : proceeds (operate op (contents_through d c)) ≡ command_on ops c
  run_from = ap (λ os. operate_all c i os (contents_through d c) got) (sym first) ∙ before.run

  pub IsDoneUpTo-step : (values : List (Option ℤ))
      → operate op (contents_through d c) ≡ Some (contents_through e c, values) → AddsKeys op d e
      → IsDoneUpTo ops c (i + 1) e (got ++ values)
  IsDoneUpTo-step values went adds =
      record {
        run = ap (λ j. operate_all c j (drop (i + 1) ops) (contents_through e c) (got ++ values))
            (add-one i) ∙ ap proceeds (sym went) ∙ run_from;
        keys = keys_step op (drop (i + 1) ops) d e adds
            ∙ ap (λ os. add_keys (contents.keys d) (flat_map written_by os)) (sym first)
            ∙ before.keys;
      }

  pub IsDoneUpTo-read : (v : Option ℤ) → IsStepOf (Read v) op c d e
      → IsDoneUpTo ops c (i + 1) e (got ++ v ∷ [])
  IsDoneUpTo-read v h = IsDoneUpTo-step (v ∷ []) h.0 h.1

  pub IsDoneUpTo-done : IsStepOf Done op c d e → IsDoneUpTo ops c (i + 1) e got
  IsDoneUpTo-done h = let P : List (Option ℤ)
      → Type 0 = λ values. IsDoneUpTo ops c (i + 1) e values in
      subst P (append-nil got) (IsDoneUpTo-step [] h.0 h.1)

  aborted : IsStepOf Abort op c d e → command_on ops c
      ≡ record { reply = reply.Abort i; after = c }
  aborted h = sym run_from ∙ ap proceeds h

  pub command_on-at_abort : IsStepOf Abort op c d e → reply.Abort i ≡ (command_on ops c).reply
  command_on-at_abort h = sym (ap (λ o. o.reply) (aborted h))

  pub writes_of-at_abort : IsStepOf Abort op c d e → [] ≡ writes_of ops c
  writes_of-at_abort h = sym (ap (λ o. writes_by o.reply ops o.after) (aborted h))

module _ (ops : List Op) (c : Contents) (i : ℕ) (d : Draft) (got : List (Option ℤ))
    (before : IsDoneUpTo ops c i d got) (past : length ops ≤ i) where
  ended : command_on ops c ≡ record { reply = reply.Values got; after = contents_through d c }
  ended = sym before.run ∙ ap (λ os. operate_all c i os (contents_through d c) got)
      (drop_all i ops past)

  pub command_on-at_end : reply.Values got ≡ (command_on ops c).reply
  command_on-at_end = sym (ap (λ o. o.reply) ended)

  pub writes_of-at_end : contents.entries d ≡ writes_of ops c
  writes_of-at_end =
      sym (apply_writes-read_back (contents.entries d) (entries_sorted d) c)
      ∙ ap (λ ks. map (λ k. (k, contents.get (contents_through d c) k)) ks)
      (ap (λ os. add_keys (contents.keys d) (flat_map written_by os))
      (sym (drop_all i ops past)) ∙ before.keys)
      ∙ sym (ap (λ o. writes_by o.reply ops o.after) ended)
