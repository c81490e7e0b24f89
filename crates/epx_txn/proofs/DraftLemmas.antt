-- Reading through a draft, and writing to it.
use Rattle.std.proofs.Common.{◌≡◌, ℕ, ℤ, ◌∙◌, sym, ap, List, [], ◌∷◌, Option, Some, None, unwrap_or}
use Rattle.std.proofs.Common.{map, subst}
use Rattle.std.specs.FinMap as contents
use Rattle.std.specs.FinMap.{entries-insert}
use Rattle.epx_types.proofs.Common.{add_keys, Contents, assign, operate, written_by}
use Rattle.epx_types.proofs.Common.{key_cmp-IsTotalOrder}
use Rattle.epx_types.proofs.Common.{keys_of-put, get-put_entries, put_entries-insert}
use Rattle.epx_types.specs.declared.op.Op.{Op}
use Rattle.epx_txn.specs.declared.draft.Step.TheVariants.{Done}
use Rattle.epx_txn.specs.inner.Drafts.{Draft, contents_through, IsStepOf, AddsKeys}

-- where the draft has a key, the command sees its value there
pub contents_through-written : (d : Draft) (c : Contents) (k : List ℕ) (w : Option ℤ)
    → contents.get d k ≡ Some w → w ≡ contents.get (contents_through d c) k
contents_through-written d c k w e =
    sym (get-put_entries d c k ∙ ap (λ o. unwrap_or o (contents.get c k)) e)

-- where the draft does not have a key, the command sees the value in the store
pub contents_through-unwritten : (d : Draft) (c : Contents) (k : List ℕ) → contents.get d k ≡ None
    → contents.get c k ≡ contents.get (contents_through d c) k
contents_through-unwritten d c k e =
    sym (get-put_entries d c k ∙ ap (λ o. unwrap_or o (contents.get c k)) e)

-- a write adds its key
adds_key : (op : Op) (d : Draft) (k : List ℕ) (w : Option ℤ) → written_by op ≡ k ∷ []
    → AddsKeys op d (contents.insert d k w)
adds_key op d k w one =
    ap (λ es. map (λ e. e.0) es) (entries-insert key_cmp-IsTotalOrder d k w)
    ∙ keys_of-put k w (contents.entries d)
    ∙ ap (add_keys (contents.keys d)) (sym one)

-- an operation that writes one key, after its write is in the draft
pub IsStepOf-written : (op : Op) (c : Contents) (d e : Draft) (k : List ℕ) (v : Option ℤ)
    → e ≡ contents.insert d k v
    → (operate op (contents_through d c) ≡ Some (assign (contents_through d c) k v, []))
    × (written_by op ≡ k ∷ [])
    → IsStepOf Done op c d e
IsStepOf-written op c d e k v is writes =
    subst (IsStepOf Done op c d) (sym is) (
      writes.0 ∙ ap (λ x. Some (x, [])) (sym (put_entries-insert d k v c)),
      adds_key op d k v writes.1,
    )
