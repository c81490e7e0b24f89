-- Look-ups in the shards of a store.
use Rattle.std.proofs.Common.{◌≡◌, ◌≢◌, ℕ, zero, suc, ◌<◌, ℤ, cond, true, false, List, [], ◌∷◌}
use Rattle.std.proofs.Common.{◌++◌, length, flat_map, get_or, Some, None, refl, sym, ap, ◌∙◌, inl}
use Rattle.std.proofs.Common.{inr, All, arith}
use Rattle.epx_types.proofs.Common.{eq_by_cmp, cases_lt, get_or_default, get_or_past}
use Rattle.epx_types.proofs.Common.{get-from_entries, get-entries, get-empty, key_cmp, Contents}
use Rattle.epx_types.proofs.Common.{key_cmp-IsTotalOrder, Contents-extensional}
use Rattle.std.specs.FinMap as contents
use Rattle.std.specs.FinMap.{find}
use Rattle.epx_store.specs.Shards.{shard_of, AreShards, all_contents}

-- ---- a key among lists of entries

abbrev pub no_contents : Contents
no_contents = contents.empty

find-append_none : (q : List ℕ) (es fs : List (List ℕ × ℤ)) → find key_cmp q es ≡ None
    → find key_cmp q (es ++ fs) ≡ find key_cmp q fs
find-append_none q [] fs h = refl
find-append_none q (e ∷ es) fs h =
    elim (eq_by_cmp key_cmp q e.0) as (λ b. cond b (Some e.1) (find key_cmp q es) ≡ None
    → cond b (Some e.1) (find key_cmp q (es ++ fs)) ≡ find key_cmp q fs) [
      | true ↦ λ found. absurd (cc found)
      | false ↦ λ none. find-append_none q es fs none
    ] h

find-append_first : (q : List ℕ) (es fs : List (List ℕ × ℤ)) → find key_cmp q fs ≡ None
    → find key_cmp q (es ++ fs) ≡ find key_cmp q es
find-append_first q [] fs h = h
find-append_first q (e ∷ es) fs h =
    ap (cond (eq_by_cmp key_cmp q e.0) (Some e.1)) (find-append_first q es fs h)

-- a key that no map has is not found in them together
pub find-nowhere : (q : List ℕ) (cs : List Contents)
    → ((n : ℕ) → contents.get (get_or cs n no_contents) q ≡ None)
    → find key_cmp q (flat_map contents.entries cs) ≡ None
find-nowhere q [] h = refl
find-nowhere q (c ∷ cs) h =
    find-append_none q (contents.entries c) (flat_map contents.entries cs)
    (sym (get-entries c q) ∙ h 0) ∙ find-nowhere q cs (λ n. h (suc n))

-- a key that only one map may have is found as in that map
pub find-in_one : (q : List ℕ) (cs : List Contents) (n : ℕ)
    → ((m : ℕ) → n ≢ m → contents.get (get_or cs m no_contents) q ≡ None)
    → find key_cmp q (flat_map contents.entries cs) ≡ contents.get (get_or cs n no_contents) q
find-in_one q [] n h = sym (get-empty key_cmp q)
find-in_one q (c ∷ cs) zero h =
    find-append_first q (contents.entries c) (flat_map contents.entries cs)
    (find-nowhere q cs (λ m. h (suc m) (λ e. absurd (omega (arith, e)))))
    ∙ sym (get-entries c q)
find-in_one q (c ∷ cs) (suc n) h =
    find-append_none q (contents.entries c) (flat_map contents.entries cs)
    (sym (get-entries c q) ∙ h 0 (λ e. absurd (omega (arith, e))))
    ∙ find-in_one q cs n (λ m apart. h (suc m) (λ e. apart (omega (arith, e))))

-- ---- look-ups

pub shard_of-below : (k : List ℕ) → shard_of k < 16
shard_of-below k = omega arith

-- a key is found in its shard
pub get-all_contents : (shards : List Contents) (q : List ℕ) → AreShards shards
    → contents.get (all_contents shards) q ≡ contents.get (get_or shards (shard_of q) no_contents)
    q
get-all_contents shards q h =
    get-from_entries key_cmp-IsTotalOrder (flat_map contents.entries shards) q
    ∙ find-in_one q shards (shard_of q) (λ m apart. h.own m q apart)

-- a look-up in the shard of a key is a look-up in the store
pub get-opened : (shards : List Contents) (c : Contents) (q : List ℕ) (n : ℕ) (d : Contents)
    → AreShards shards → all_contents shards ≡ c → n ≡ shard_of q
    → contents.get (get_or shards n d) q ≡ contents.get c q
get-opened shards c q n d h is own =
    ap (λ x. contents.get x q)
    (get_or_default shards n d no_contents (omega (arith, shard_of-below q, h.sixteen, own)))
    ∙ ap (λ m. contents.get (get_or shards m no_contents) q) own
    ∙ sym (get-all_contents shards q h)
    ∙ ap (λ x. contents.get x q) is

-- each of several empty maps is empty, and so is the default after them
empty_at : (shards : List Contents) → All (λ c. c ≡ contents.empty) shards → (n : ℕ)
    → get_or shards n no_contents ≡ contents.empty
empty_at shards h n = elim (cases_lt n (length shards))
    [ inl within ↦ h n no_contents within | inr past ↦ get_or_past shards n no_contents past ]

module _ (shards : List Contents) (h : All (λ c. c ≡ contents.empty) shards) where
  nothing : (n : ℕ) (q : List ℕ) → contents.get (get_or shards n no_contents) q ≡ None
  nothing n q = ap (λ c. contents.get c q) (empty_at shards h n) ∙ get-empty key_cmp q

  -- empty maps are shards
  pub AreShards-empty : length shards ≡ 16 → AreShards shards
  AreShards-empty sixteen = record { sixteen = sixteen; own = λ n k apart. nothing n k }

  -- empty maps contain nothing together
  pub all_contents-empty : all_contents shards ≡ contents.empty
  all_contents-empty =
      Contents-extensional _ _
      (λ q. get-from_entries key_cmp-IsTotalOrder (flat_map contents.entries shards) q
      ∙ find-nowhere q shards (λ n. nothing n q) ∙ sym (get-empty key_cmp q))
