-- Whether a key is among keys, and among those that operations touch or write.
use Rattle.std.proofs.Common.{◌≡◌, inl, inr, ℕ, true, false, ◌||◌, List, [], ◌∷◌, flat_map, ℤ}
use Rattle.std.proofs.Common.{Option, map, Contains, refl, sym, ap, ◌∙◌, true≢false}
use Rattle.epx_types.proofs.Common.{list_any, eq_by_cmp, cases_Bool, Contains-from_any}
use Rattle.epx_types.proofs.Common.{list_any-from_Contains, key_cmp, rising_keys, touched_by}
use Rattle.epx_types.proofs.Common.{written_by, touched_keys, written_keys, command_on, Contents}
use Rattle.epx_types.proofs.Common.{writes_by, written_keys-or_same, written_keys-touched}
use Rattle.epx_types.proofs.Common.{after-abort}
use Rattle.epx_types.proofs.Common.{Contains-rising_keys, Contains-from_rising_keys}
use Rattle.epx_types.proofs.Common.{key_cmp-IsTotalOrder}
use Rattle.epx_types.proofs.Common.{eq_by_cmp-same_key}
use Rattle.epx_types.specs.declared.op.Op.{Op}
use Rattle.epx_types.specs.declared.reply.Reply.{Reply}
use Rattle.epx_types.specs.declared.reply.Reply.TheVariants.{Values, Abort}
use Rattle.std.specs.FinMap as contents
use Rattle.std.proofs.lemmas.Bool.{false_from_ne_true}
use Rattle.std.proofs.lemmas.List.Folds.{list_any-append}
use Rattle.std.proofs.lemmas.Cmp.{eq_by_cmp_equiv}
use Rattle.epx_types.specs.Writes.{Write}
use Rattle.epx_trace.specs.Traces.{has_key, writes_key}

Contains-from_has_key : (ks : List (List ℕ)) (k : List ℕ) → has_key ks k ≡ true → Contains ks k
Contains-from_has_key ks k = Contains-from_any {eq = eq_by_cmp key_cmp} eq_by_cmp-same_key k ks

has_key-from_Contains : (ks : List (List ℕ)) (k : List ℕ) → Contains ks k → has_key ks k ≡ true
has_key-from_Contains ks k h = list_any-from_Contains (eq_by_cmp_equiv key_cmp-IsTotalOrder) k ks h

no_key : (ks : List (List ℕ)) (k : List ℕ) → has_key ks k ≡ false → ¬ Contains ks k
no_key ks k none h = true≢false (sym (has_key-from_Contains ks k h) ∙ none)

-- a key is among the rising keys of a list if it is in the list
has_key-rising_keys : (ks : List (List ℕ)) (k : List ℕ)
    → has_key (rising_keys ks) k ≡ has_key ks k
has_key-rising_keys ks k =
    elim (cases_Bool (has_key ks k)) [
      | inl some ↦ has_key-from_Contains (rising_keys ks) k
          (Contains-rising_keys ks k (Contains-from_has_key ks k some)) ∙ sym some
      | inr none ↦ false_from_ne_true (has_key (rising_keys ks) k) (λ some.
          no_key ks k none (Contains-from_rising_keys ks k
          (Contains-from_has_key (rising_keys ks) k some))) ∙ sym none
    ]

has_key-flat_map : (keys_by : Op → List (List ℕ)) (ops : List Op) (k : List ℕ)
    → list_any (λ op. has_key (keys_by op) k) ops ≡ has_key (flat_map keys_by ops) k
has_key-flat_map keys_by [] k = refl
has_key-flat_map keys_by (op ∷ ops) k =
    ap (λ b. has_key (keys_by op) k || b) (has_key-flat_map keys_by ops k)
    ∙ sym (list_any-append (eq_by_cmp key_cmp k) (keys_by op) (flat_map keys_by ops))

any_op : (keys_by : Op → List (List ℕ)) (ops : List Op) (k : List ℕ)
    → list_any (λ op. has_key (keys_by op) k) ops ≡ has_key (rising_keys (flat_map keys_by ops)) k
any_op keys_by ops k =
    has_key-flat_map keys_by ops k ∙ sym (has_key-rising_keys (flat_map keys_by ops) k)

-- a command touches a key if one of its operations does
pub list_any-touches : (ops : List Op) (k : List ℕ)
    → list_any (λ op. has_key (touched_by op) k) ops ≡ has_key (touched_keys ops) k
list_any-touches ops k = any_op touched_by ops k

pub list_any-writes : (ops : List Op) (k : List ℕ)
    → list_any (λ op. has_key (written_by op) k) ops ≡ has_key (written_keys ops) k
list_any-writes ops k = any_op written_by ops k

keys_of_writes : (ks : List (List ℕ)) (after : Contents)
    → map (λ (w : Write). w.0) (map (λ k. (k, contents.get after k)) ks) ≡ ks
keys_of_writes [] after = refl
keys_of_writes (k ∷ ks) after = ap (λ js. k ∷ js) (keys_of_writes ks after)

-- the writes of a command that does not abort have the keys that it writes
pub has_key-writes_by : (reply : Reply) (got : List (Option ℤ)) → reply ≡ Values got
    → (ops : List Op) (after : Contents) (k : List ℕ)
    → has_key (map (λ w. w.0) (writes_by reply ops after)) k ≡ has_key (written_keys ops) k
has_key-writes_by reply got is ops after k =
    ap (λ r. has_key (map (λ (w : Write). w.0) (writes_by r ops after)) k) is
    ∙ ap (λ ks. has_key ks k) (keys_of_writes (written_keys ops) after)

-- ---- a key that a command does not touch, or does not write, keeps its value

pub get-untouched : (ops : List Op) (c : Contents) (k : List ℕ)
    → has_key (touched_keys ops) k ≡ false
    → contents.get (command_on ops c).after k ≡ contents.get c k
get-untouched ops c k none =
    elim (written_keys-or_same ops c k) [
      | inl written ↦ absurd (no_key (touched_keys ops) k none (written_keys-touched ops k written))
      | inr same ↦ same
    ]

pub get-unwritten : (ops : List Op) (c : Contents) (k : List ℕ) → writes_key ops c k ≡ false
    → contents.get (command_on ops c).after k ≡ contents.get c k
get-unwritten ops c k none = by (command_on ops c).reply refl none where
  by : (reply : Reply) → (command_on ops c).reply ≡ reply
      → has_key (map (λ w. w.0) (writes_by reply ops (command_on ops c).after)) k ≡ false
      → contents.get (command_on ops c).after k ≡ contents.get c k
  by (Abort j) is no_write = ap (λ d. contents.get d k) (after-abort ops c j is)
  by (Values got) is no_write =
      elim (written_keys-or_same ops c k) [
        | inl written ↦ absurd (no_key (written_keys ops) k
            (sym (has_key-writes_by (Values got) got refl ops (command_on ops c).after k)
            ∙ no_write) written)
        | inr same ↦ same
      ]
