-- The numbers of keys, and the search for one.
use Rattle.std.proofs.Common.{◌≡◌, inl, inr, ℕ, zero, suc, ◌+◌, ◌<◌, ◌≤◌, List, []}
use Rattle.std.proofs.Common.{◌∷◌, length, get_or, map, Bor, Contains, AllPairs, Some, slice_get}
use Rattle.std.proofs.Common.{Less, Equal, Greater, refl, sym, ap, subst, ◌∙◌, arith}
use Rattle.std.specs.Cmp.{tied_itself}
use Rattle.std.specs.Ordering.{is_lt, ordering_index}
use Rattle.std.specs.declared.cmp.Ordering.{Ordering}
use Rattle.std.specs.List.Sorted.{IsSorted, IsNonDecreasingBy, IsPartitionPoint}
use Rattle.std.proofs.lemmas.List.Sorted.{searchable_from_sorted}
use Rattle.std.proofs.lemmas.Option.{slice_get_cases}
use Rattle.epx_types.proofs.lists.ListPositionLemmas.{slice_get-map}
use Rattle.epx_types.proofs.Common.{key_cmp-IsAntisymmetric}
use Rattle.std.proofs.Common.{flat_map, drop}
use Rattle.epx_types.specs.Keys.{KeyBelow}
use Rattle.epx_types.specs.declared.command.Command.{Command}
use Rattle.epx_types.proofs.Common.{add_keys, add_keys-append, touched_by, drop_more, drop_all}
use Rattle.epx_types.proofs.Common.{cases_lt, cases_Bool, is_lt-asymm, is_lt-irrefl, key_cmp}
use Rattle.epx_types.proofs.Common.{key_cmp-IsTotalOrder, key_cmp-cases, AllPairs-head}
use Rattle.epx_types.proofs.Common.{AllPairs-tail}
use Rattle.epx_types.proofs.Common.{Contains-head, Contains-cons, Contains-slice_get, length-map}
use Rattle.epx_types.proofs.Common.{Contains-cons_cases, Contains-nil, Contains-from_map}
use Rattle.epx_neighbours.specs.inner.KeyNumbers.{number_of}

-- the number of a key that is at a position of a rising list
pub number_of-at_position : (keys : List (List ℕ)) → AllPairs KeyBelow keys → (i : ℕ) (k : List ℕ)
    → slice_get keys i ≡ Some k → number_of keys k ≡ i
number_of-at_position [] rising i k e = absurd (cc e)
number_of-at_position (x ∷ keys) rising zero k e =
    let same : x ≡ k = cc e in
    elim (key_cmp-cases x k) [
      | inl is ↦ rw is.0
      | inr other ↦ absurd (other.1 same)
    ]
number_of-at_position (x ∷ keys) rising (suc i) k e =
    let later : KeyBelow x k = AllPairs-head KeyBelow x keys k rising
    (Contains-slice_get keys i k e) in
    elim (key_cmp-cases x k) [
      | inl is ↦ absurd
          (is_lt-irrefl key_cmp-IsTotalOrder k (subst (λ (q : List ℕ). KeyBelow q k) is.1
          later))
      | inr other ↦ rw other.0
          (ap suc (number_of-at_position keys (AllPairs-tail KeyBelow x keys rising) i k
          e))
    ]

-- a key is at its number
pub slice_get-number_of : (keys : List (List ℕ)) (k : List ℕ) → Contains keys k
    → slice_get keys (number_of keys k) ≡ Some k
slice_get-number_of [] k h = absurd (Contains-nil k h)
slice_get-number_of (x ∷ keys) k h =
    elim (key_cmp-cases x k) [
      | inl is ↦ rw is.0 (ap Some is.1)
      | inr other ↦ rw other.0 (elim (Contains-cons_cases x keys k h) [
        | inl same ↦ absurd (other.1 same)
        | inr later ↦ slice_get-number_of keys k later
      ])
    ]

-- the number of a key that is not there
pub number_of-absent : (keys : List (List ℕ)) (k : List ℕ) → ¬ Contains keys k
    → number_of keys k ≡ length keys
number_of-absent [] k absent = refl
number_of-absent (x ∷ keys) k absent =
    elim (key_cmp-cases x k) [
      | inl is ↦ absurd (absent (subst (Contains (x ∷ keys)) is.1 (Contains-head x keys)))
      | inr other ↦ rw other.0
          (ap suc (number_of-absent keys k (λ h. absent (Contains-cons x keys k h))))
    ]

module _ (keys : List (Bor (List ℕ))) (rising : AllPairs KeyBelow (map (λ k. k.now) keys)) where
  get_or-now : (xs : List (Bor (List ℕ))) (i : ℕ) (d : Bor (List ℕ))
      → get_or (map (λ k. k.now) xs) i d.now ≡ (get_or xs i d).now
  get_or-now [] i d = refl
  get_or-now (x ∷ xs) zero d = refl
  get_or-now (x ∷ xs) (suc i) d = get_or-now xs i d

  abbrev by_now : Bor (List ℕ) → Bor (List ℕ) → Ordering
  by_now x y = key_cmp x.now y.now

  sorted : IsSorted by_now keys
  sorted k d low l =
      let below : KeyBelow (get_or keys k d).now (get_or keys (k + 1) d).now =
      subst (λ (q : List ℕ). KeyBelow q (get_or keys (k + 1) d).now) (get_or-now keys k d)
      (subst (λ (q : List ℕ). KeyBelow (get_or (map (λ k. k.now) keys) k d.now) q)
      (get_or-now keys (k + 1) d)
      (rising k (k + 1) d.now (omega arith) (omega (arith, l, length-map keys (λ k. k.now))))) in
      elim (cases_Bool (is_lt (key_cmp (get_or keys (k + 1) d).now (get_or keys k d).now))) [
        | inl back ↦ absurd
            (is_lt-asymm key_cmp-IsTotalOrder (get_or keys k d).now (get_or keys (k + 1) d).now
            below back)
        | inr level ↦ level
      ]

  pub number_of-found : (k : List ℕ) (i : ℕ) → i < length keys
      → ((d : Bor (List ℕ)) → key_cmp (get_or keys i d).now k ≡ Equal)
      → i ≡ number_of (map (λ k. k.now) keys) k
  number_of-found k i l equal =
      let found = slice_get_cases keys i in
      elim found.1 [
        | inl (d, within, at, read) ↦
            let same : d.now ≡ k = key_cmp-IsAntisymmetric d.now k
            (ap (λ (b : Bor (List ℕ)). key_cmp b.now k) (sym read) ∙ equal d) in
            sym (number_of-at_position (map (λ k. k.now) keys) rising i k
            (slice_get-map (λ (b : Bor (List ℕ)). b.now) keys i d at ∙ ap Some same))
        | inr none ↦ absurd (omega (arith, none.0, l))
      ]

  pub number_of-missing : (k : List ℕ) (i : ℕ)
      → (IsNonDecreasingBy (λ (y : Bor (List ℕ)). ordering_index (key_cmp y.now k)) keys
      → IsPartitionPoint (λ (y : Bor (List ℕ)). key_cmp y.now k ≡ Less)
      (λ (y : Bor (List ℕ)). key_cmp y.now k ≡ Greater) keys i)
      → length keys ≡ number_of (map (λ k. k.now) keys) k
  number_of-missing k i parts =
      sym (number_of-absent (map (λ k. k.now) keys) k absent ∙ length-map keys (λ k. k.now))
    where
      absent : ¬ Contains (map (λ k. k.now) keys) k
      absent h =
          let point =
          parts (searchable_from_sorted key_cmp-IsTotalOrder (λ (y : Bor (List ℕ)). y.now) keys
          k sorted) in
          let b = Contains-from_map (λ (b : Bor (List ℕ)). b.now) keys k h in
          let at = b.1 in
          let tie : key_cmp (get_or keys at.0 b.0).now k ≡ Equal =
          ap (λ (c : Bor (List ℕ)). key_cmp c.now k) at.2
          ∙ (ap (λ q. key_cmp q k) b.2 ∙ tied_itself key_cmp-IsTotalOrder k) in
          elim (cases_lt at.0 i) [
            | inl l ↦ let less = point.0 at.0 b.0 (omega arith) l in absurd (cc (less, tie))
            | inr m ↦ let more = point.1 at.0 b.0 m at.1 in absurd (cc (more, tie))
          ]

-- ---- gathering the keys of commands

-- the keys of one more command
pub add_keys-step : (commands : List Command) (i : ℕ) (command : Command)
    (old new all : List (List ℕ)) → i < length commands → command ≡ get_or commands i command
    → new ≡ add_keys old (flat_map touched_by command.ops.now)
    → add_keys old (flat_map (flat_map touched_by) (map (λ c. c.ops.now) (drop i commands))) ≡ all
    → add_keys new (flat_map (flat_map touched_by) (map (λ c. c.ops.now) (drop (i + 1) commands)))
    ≡ all
add_keys-step commands i command old new all l is more up =
    let rest = flat_map (flat_map touched_by) (map (λ (c : Command). c.ops.now)
    (drop (i + 1) commands)) in
    let split : drop i commands ≡ command ∷ drop (i + 1) commands =
    drop_more commands i command l ∙ ap (λ c. c ∷ drop (i + 1) commands) (sym is) in
    ap (λ ks. add_keys ks rest) more
    ∙ (sym (add_keys-append old (flat_map touched_by command.ops.now) rest)
    ∙ (ap (λ (cs : List Command). add_keys old
    (flat_map (flat_map touched_by) (map (λ c. c.ops.now) cs))) (sym split) ∙ up))

-- the keys of all commands
pub add_keys-at_end : (commands : List Command) (i : ℕ) (keys all : List (List ℕ))
    → length commands ≤ i
    → add_keys keys (flat_map (flat_map touched_by) (map (λ c. c.ops.now) (drop i commands))) ≡ all
    → keys ≡ all
add_keys-at_end commands i keys all past up =
    ap (λ (cs : List Command). add_keys keys
    (flat_map (flat_map touched_by) (map (λ c. c.ops.now) cs))) (sym (drop_all i commands past))
    ∙ up
