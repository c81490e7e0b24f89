-- Renamed commands conflict exactly if the commands do, so they have the same levels.
use Rattle.std.proofs.Common.{◌≡◌, ◌↔◌, inl, inr, ℕ, ◌<◌, zero, suc, List, [], ◌∷◌, ◌++◌, map}
use Rattle.std.proofs.Common.{flat_map, get_or, length, Contains, refl, sym, ap₂, ◌∙◌, subst}
use Rattle.epx_types.proofs.Common.{map-append, length-map, rising_keys, touched_by, written_by}
use Rattle.epx_types.proofs.Common.{touched_keys, written_keys, Conflict, ConflictAt, Climbs}
use Rattle.epx_types.proofs.Common.{IsLevel, AreLevels, Contains-map, Contains-from_map}
use Rattle.epx_types.proofs.Common.{Contains-rising_keys, Contains-from_rising_keys}
use Rattle.epx_types.specs.declared.op.Op.{Op}
use Rattle.epx_types.specs.declared.op.Op.TheVariants.{Get, Put, Del, Add, Is, Floor, Copy}
use Rattle.epx_laws.specs.Renaming.{Renaming, renamed_op, renamed_command, renamed_commands}

-- ---- levels of commands of which the same conflict

module _ (commands other : List (List Op)) where
  Climbs-alike : ((i j : ℕ) → ConflictAt commands i j → ConflictAt other i j)
      → (j : ℕ) (is : List ℕ) → Climbs commands j is → Climbs other j is
  Climbs-alike alike j [] climbs = climbs
  Climbs-alike alike j (i ∷ is) climbs =
      (climbs.0, alike i j climbs.1, Climbs-alike alike i is climbs.2)

module _ (commands other : List (List Op)) (long : length commands ≡ length other)
    (there : (i j : ℕ) → ConflictAt commands i j → ConflictAt other i j)
    (back : (i j : ℕ) → ConflictAt other i j → ConflictAt commands i j) where
  IsLevel-alike : (j l : ℕ) → IsLevel commands j l → IsLevel other j l
  IsLevel-alike j l is = record {
    chain = (is.chain.0, Climbs-alike commands other there j is.chain.0 is.chain.1, is.chain.2);
    longest = λ positions climbs.
        is.longest positions (Climbs-alike other commands back j positions climbs);
  }

  AreLevels-alike : (levels : List ℕ) → AreLevels commands levels → AreLevels other levels
  AreLevels-alike levels are = record {
    whole = are.whole ∙ long;
    each = λ j low. IsLevel-alike j (get_or levels j 0)
        (are.each j (subst (λ n. j < n) (sym long) low));
  }

module _ (r : Renaming) where
  -- ---- keys

  touched_by-renamed : (op : Op) → touched_by (renamed_op r op) ≡ map r.key (touched_by op)
  touched_by-renamed (Get k) = refl
  touched_by-renamed (Put k v) = refl
  touched_by-renamed (Del k) = refl
  touched_by-renamed (Add k n) = refl
  touched_by-renamed (Is k v) = refl
  touched_by-renamed (Floor k least) = refl
  touched_by-renamed (Copy k j) = refl

  written_by-renamed : (op : Op) → written_by (renamed_op r op) ≡ map r.key (written_by op)
  written_by-renamed (Get k) = refl
  written_by-renamed (Put k v) = refl
  written_by-renamed (Del k) = refl
  written_by-renamed (Add k n) = refl
  written_by-renamed (Is k v) = refl
  written_by-renamed (Floor k least) = refl
  written_by-renamed (Copy k j) = refl

  -- the keys of commands, where those of an operation are renamed
  module _ (keys : Op → List (List ℕ))
      (same : (op : Op) → keys (renamed_op r op) ≡ map r.key (keys op)) where
    flat_map-renamed : (ops : List Op)
        → flat_map keys (renamed_command r ops) ≡ map r.key (flat_map keys ops)
    flat_map-renamed [] = refl
    flat_map-renamed (op ∷ ops) =
        ap₂ (λ ks js. ks ++ js) (same op) (flat_map-renamed ops)
        ∙ sym (map-append r.key (keys op) (flat_map keys ops))

    Contains-renamed : (ops : List Op) (k : List ℕ)
        → Contains (rising_keys (flat_map keys ops)) k
        → Contains (rising_keys (flat_map keys (renamed_command r ops))) (r.key k)
    Contains-renamed ops k h =
        Contains-rising_keys (flat_map keys (renamed_command r ops)) (r.key k)
        (subst (λ ks. Contains ks (r.key k)) (sym (flat_map-renamed ops))
        (Contains-map r.key (flat_map keys ops) k
        (Contains-from_rising_keys (flat_map keys ops) k h)))

    Contains-from_renamed : (ops : List Op) (q : List ℕ)
        → Contains (rising_keys (flat_map keys (renamed_command r ops))) q
        → (k : List ℕ) × Contains (rising_keys (flat_map keys ops)) k × (r.key k ≡ q)
    Contains-from_renamed ops q h =
        let from = Contains-from_map r.key (flat_map keys ops) q
        (subst (λ ks. Contains ks q) (flat_map-renamed ops)
        (Contains-from_rising_keys (flat_map keys (renamed_command r ops)) q h)) in
        (from.0, Contains-rising_keys (flat_map keys ops) from.0 from.1, from.2)

  -- ---- conflicts

  Conflict-renamed : (a b : List Op) → Conflict a b
      → Conflict (renamed_command r a) (renamed_command r b)
  Conflict-renamed a b (k, inl both) = (
    r.key k,
    inl (
      Contains-renamed written_by written_by-renamed a k both.0,
      Contains-renamed touched_by touched_by-renamed b k both.1,
    ),
  )
  Conflict-renamed a b (k, inr both) = (
    r.key k,
    inr (
      Contains-renamed touched_by touched_by-renamed a k both.0,
      Contains-renamed written_by written_by-renamed b k both.1,
    ),
  )

  Conflict-from_renamed : (a b : List Op)
      → Conflict (renamed_command r a) (renamed_command r b) → Conflict a b
  Conflict-from_renamed a b (q, inl both) =
      let k = Contains-from_renamed written_by written_by-renamed a q both.0 in
      let j = Contains-from_renamed touched_by touched_by-renamed b q both.1 in
      let same : j.0 ≡ k.0 = r.keys_injective j.0 k.0 (j.2 ∙ sym k.2) in
      (k.0, inl (k.1, subst (Contains (touched_keys b)) same j.1))
  Conflict-from_renamed a b (q, inr both) =
      let k = Contains-from_renamed touched_by touched_by-renamed a q both.0 in
      let j = Contains-from_renamed written_by written_by-renamed b q both.1 in
      let same : j.0 ≡ k.0 = r.keys_injective j.0 k.0 (j.2 ∙ sym k.2) in
      (k.0, inr (k.1, subst (Contains (written_keys b)) same j.1))

  -- renamed commands conflict exactly if the commands do
  pub Conflict-renamed_iff : (a b : List Op)
      → Conflict (renamed_command r a) (renamed_command r b) ↔ Conflict a b
  Conflict-renamed_iff a b = (Conflict-from_renamed a b, Conflict-renamed a b)

  -- ---- levels

  at-renamed : (commands : List (List Op)) (i : ℕ)
      → get_or (renamed_commands r commands) i [] ≡ renamed_command r (get_or commands i [])
  at-renamed [] i = refl
  at-renamed (ops ∷ commands) zero = refl
  at-renamed (ops ∷ commands) (suc i) = at-renamed commands i

  ConflictAt-renamed : (commands : List (List Op)) (i j : ℕ) → ConflictAt commands i j
      → ConflictAt (renamed_commands r commands) i j
  ConflictAt-renamed commands i j h =
      subst (λ b. Conflict (get_or (renamed_commands r commands) i []) b)
      (sym (at-renamed commands j))
      (subst (λ a. Conflict a (renamed_command r (get_or commands j [])))
      (sym (at-renamed commands i))
      (Conflict-renamed (get_or commands i []) (get_or commands j []) h))

  ConflictAt-from_renamed : (commands : List (List Op)) (i j : ℕ)
      → ConflictAt (renamed_commands r commands) i j → ConflictAt commands i j
  ConflictAt-from_renamed commands i j h =
      Conflict-from_renamed (get_or commands i []) (get_or commands j [])
      (subst (λ b. Conflict (renamed_command r (get_or commands i [])) b) (at-renamed commands j)
      (subst (λ a. Conflict a (get_or (renamed_commands r commands) j []))
      (at-renamed commands i) h))

  -- renamed commands have the levels of the commands
  pub AreLevels-renamed_iff : (commands : List (List Op)) (levels : List ℕ)
      → AreLevels (renamed_commands r commands) levels ↔ AreLevels commands levels
  AreLevels-renamed_iff commands levels =
      let long : length (renamed_commands r commands) ≡ length commands =
      length-map commands (renamed_command r) in (
        AreLevels-alike (renamed_commands r commands) commands long
            (ConflictAt-from_renamed commands) (ConflictAt-renamed commands) levels,
        AreLevels-alike commands (renamed_commands r commands) (sym long)
            (ConflictAt-renamed commands) (ConflictAt-from_renamed commands) levels,
      )
