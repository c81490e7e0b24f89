-- Writes to the shards of a store, each to its own shard.
use Rattle.std.proofs.Common.{◌≡◌, ◌≢◌, ℕ, ◌<◌, ℤ, cond, List, [], ◌∷◌, length, get_or, set, Option}
use Rattle.std.proofs.Common.{refl, sym, ap, subst, OnOk, OnErr, ◌∙◌, inl, inr, arith}
use Rattle.epx_types.proofs.Common.{cases_lt, eqb_tells, get_or_default, get_or_past}
use Rattle.epx_types.proofs.Common.{get_or-set_same, get_or-set_other, length-set, get-empty}
use Rattle.epx_types.proofs.Common.{Contents, assign, apply_writes, Contents-extensional}
use Rattle.epx_types.proofs.Common.{get-assign_cases}
use Rattle.epx_types.proofs.Common.{get-assign_agree}
use Rattle.std.proofs.lemmas.List.{set-get_or}
use Rattle.std.specs.declared.result.Result.{Result}
use Rattle.std.specs.declared.result.Result.TheVariants.{Ok, Err}
use Rattle.std.specs.FinMap as contents
use Rattle.epx_types.specs.declared.memory.Memory.{Memory}
use Rattle.epx_types.specs.Writes.{Write}
use Rattle.epx_store.specs.Shards.{shard_of, AreShards, all_contents, writes_to}
use Rattle.epx_store.proofs.ShardLookupLemmas.{no_contents, shard_of-below, get-all_contents}

-- a write under another key changes nothing under this one
get-assign_other : (c : Contents) (k : List ℕ) (v : Option ℤ) (q : List ℕ) → q ≢ k
    → contents.get (assign c k v) q ≡ contents.get c q
get-assign_other c k v q apart =
    elim (get-assign_cases c k v q) [ inl same ↦ absurd (apart same.0) | inr other ↦ other.1 ]

-- under a key, all writes leave what the writes to its shard leave
pub get-writes_to_own : (ws : List Write) (c d : Contents) (q : List ℕ)
    → contents.get c q ≡ contents.get d q → contents.get (apply_writes ws c) q
    ≡ contents.get (apply_writes (writes_to (shard_of q) ws) d) q
get-writes_to_own [] c d q same = same
get-writes_to_own (w ∷ ws) c d q same =
    elim (eqb_tells (shard_of w.0) (shard_of q)) [
      | inl own ↦ get-writes_to_own ws (assign c w.0 w.1) (assign d w.0 w.1) q
          (get-assign_agree c d w.0 w.1 q same)
          ∙ ap (λ b. contents.get
          (apply_writes (cond b (w ∷ writes_to (shard_of q) ws) (writes_to (shard_of q) ws)) d)
          q) (sym own.0)
      | inr other ↦ get-writes_to_own ws (assign c w.0 w.1) d q
          (get-assign_other c w.0 w.1 q (λ e. other.1 (ap shard_of (sym e))) ∙ same)
          ∙ ap (λ b. contents.get
          (apply_writes (cond b (w ∷ writes_to (shard_of q) ws) (writes_to (shard_of q) ws)) d)
          q) (sym other.0)
    ]

-- writes to one shard do not change the keys of the others
pub get-writes_to_other : (ws : List Write) (c : Contents) (n : ℕ) (q : List ℕ) → shard_of q ≢ n
    → contents.get (apply_writes (writes_to n ws) c) q ≡ contents.get c q
get-writes_to_other [] c n q apart = refl
get-writes_to_other (w ∷ ws) c n q apart =
    elim (eqb_tells (shard_of w.0) n) [
      | inl own ↦ ap
          (λ b. contents.get (apply_writes (cond b (w ∷ writes_to n ws) (writes_to n ws)) c) q)
          own.0
          ∙ get-writes_to_other ws (assign c w.0 w.1) n q apart
          ∙ get-assign_other c w.0 w.1 q (λ e. apart (ap shard_of e ∙ own.1))
      | inr other ↦ ap
          (λ b. contents.get (apply_writes (cond b (w ∷ writes_to n ws) (writes_to n ws)) c) q)
          other.0 ∙ get-writes_to_other ws c n q apart
    ]

-- sixteen shards, each with the writes to its keys put in
pub record HavePutWrites (ws : List Write) (before after : List Contents) : Type 0 where
  pub long : length after ≡ 16
  pub each : (n : ℕ) → n < 16 → get_or after n no_contents
      ≡ apply_writes (writes_to n ws) (get_or before n no_contents)

module _ (ws : List Write) (before after : List Contents) (h : AreShards before)
    (taken : HavePutWrites ws before after) where
  -- the results are shards
  pub AreShards-taken : AreShards after
  AreShards-taken =
      record {
        sixteen = taken.long;
        own = λ n k apart.
            elim (cases_lt n 16) [
              | inl within ↦ ap (λ c. contents.get c k) (taken.each n within) ∙ get-writes_to_other
                  ws (get_or before n no_contents) n k apart ∙ h.own n k apart
              | inr past ↦ ap (λ c. contents.get c k)
                  (get_or_past after n no_contents (omega (arith, past, taken.long)))
                  ∙ get-empty _ k
            ];
      }

  -- the results together have all writes put in
  pub all_contents-taken : all_contents after ≡ apply_writes ws (all_contents before)
  all_contents-taken =
      Contents-extensional _ _ (λ q.
      get-all_contents after q AreShards-taken
      ∙ ap (λ c. contents.get c q) (taken.each (shard_of q) (shard_of-below q))
      ∙ sym (get-writes_to_own ws (all_contents before) (get_or before (shard_of q) no_contents) q
      (get-all_contents before q h)))

-- one write to the shard of its key
HavePutWrites-one : (shards : List Contents) (k : List ℕ) (v : Option ℤ) (n : ℕ) (d c : Contents)
    → length shards ≡ 16 → n ≡ shard_of k → c ≡ assign (get_or shards n d) k v
    → HavePutWrites ((k, v) ∷ []) shards (set shards n c)
HavePutWrites-one shards k v n d c sixteen own is =
    let within : n < length shards = omega (arith, shard_of-below k, own, sixteen) in
    record {
      long = length-set shards n c ∙ sixteen;
      each = λ m below.
          elim (eqb_tells (shard_of k) m) [
            | inl here ↦
                let same : n ≡ m = own ∙ here.1 in
                ap (λ j. get_or (set shards n c) j no_contents) (sym same)
                ∙ get_or-set_same shards n c no_contents within
                ∙ is
                ∙ ap (λ e. assign e k v) (get_or_default shards n d no_contents within
                ∙ ap (λ j. get_or shards j no_contents) same)
                ∙ ap (λ b. apply_writes (cond b ((k, v) ∷ []) []) (get_or shards m no_contents))
                (sym here.0)
            | inr other ↦ get_or-set_other shards n m c no_contents (λ e. other.1 (sym (e ∙ own)))
                ∙ ap (λ b. apply_writes (cond b ((k, v) ∷ []) []) (get_or shards m no_contents))
                (sym other.0)
          ];
    }

-- one shard after a write that succeeded or failed
module _ {A : Type 0} (shards : List Contents) (before : Contents) (k : List ℕ) (v : Option ℤ)
    (n : ℕ) (d c : Contents) (h : AreShards shards) (own : n ≡ shard_of k) where
  pub AreShards-set : (r : Result A Memory) → OnOk r (c ≡ assign (get_or shards n d) k v)
      → OnErr r (c ≡ get_or shards n d) → AreShards (set shards n c)
  AreShards-set (Ok a) ok err = AreShards-taken ((k, v) ∷ []) shards (set shards n c) h
      (HavePutWrites-one shards k v n d c h.sixteen own ok)
  AreShards-set (Err e) ok err =
      subst AreShards (sym (ap (set shards n) err ∙ set-get_or shards n d)) h

  module _ (is : all_contents shards ≡ before) where
    pub all_contents-set : (r : Result A Memory) → OnOk r (c ≡ assign (get_or shards n d) k v)
        → OnOk r (all_contents (set shards n c) ≡ assign before k v)
    all_contents-set (Ok a) ok = all_contents-taken ((k, v) ∷ []) shards (set shards n c) h
        (HavePutWrites-one shards k v n d c h.sixteen own ok) ∙ ap (λ b. assign b k v) is
    all_contents-set (Err e) ok = ok

    pub all_contents-set_same : (r : Result A Memory) → OnErr r (c ≡ get_or shards n d)
        → OnErr r (all_contents (set shards n c) ≡ before)
    all_contents-set_same (Ok a) err = err
    all_contents-set_same (Err e) err =
        ap all_contents (ap (set shards n) err ∙ set-get_or shards n d) ∙ is
