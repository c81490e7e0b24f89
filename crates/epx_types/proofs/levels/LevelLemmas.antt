-- A position has at most one level. Of two commands that conflict, the later has the higher level.
-- No other numbering that rises with conflicts has fewer numbers.
use Rattle.std.proofs.Common.{◌≡◌, ◌≢◌, ◌⊎◌, inl, inr, ◌+◌, ◌-◌, ◌<◌, ◌≤◌, ℕ, zero, suc, true}
use Rattle.std.proofs.Common.{false, List, [], ◌∷◌, ◌++◌, length, map, get_or, slice_index_or}
use Rattle.std.proofs.Common.{Contains, nat_eq, refl, sym, ap, subst, ◌∙◌, arith}
use Rattle.std.specs.List.{IsDistinct}
use Rattle.std.proofs.lemmas.Bool.{cases_lt}
use Rattle.std.proofs.lemmas.Bool.Decides.{nat_tests}
use Rattle.std.proofs.lemmas.Cmp.{nat_eq_equiv}
use Rattle.std.proofs.lemmas.List.{get_or_append_left, get_or_push, length_push, length-map}
use Rattle.std.proofs.lemmas.List.{same_lists, get_or_default}
use Rattle.std.proofs.lemmas.List.Elements.{Contains-get_or, recursion_from_All}
use Rattle.std.proofs.lemmas.Map.Made.{length-le_from_is_member}
use Rattle.std.proofs.lemmas.Map.Views.{list_any-from_Contains, Contains-from_any}
use Rattle.epx_types.specs.declared.op.Op.{Op}
use Rattle.epx_types.specs.Conflicts.{Conflict}
use Rattle.epx_types.specs.Levels.{RisesWithConflicts, ConflictAt, Climbs, IsLevel, AreLevels}
use Rattle.epx_types.specs.Levels.{level_count}
use Rattle.epx_types.proofs.lists.MembershipLemmas.{Contains-nil, Contains-cons_cases}
use Rattle.epx_types.proofs.commands.ConflictLemmas.{Conflict-symm}

module _ (commands : List (List Op)) where
  -- two levels of one position are equal
  pub IsLevel-unique : (j k l : ℕ) → IsLevel commands j k → IsLevel commands j l → k ≡ l
  IsLevel-unique j k l p q =
      let low = q.longest p.chain.0 p.chain.1 in
      let high = p.longest q.chain.0 q.chain.1 in
      omega (arith, p.chain.2, q.chain.2)

  -- of two commands that conflict, the later has the higher level
  pub IsLevel-rises : (i j k l : ℕ) → i < j
      → Conflict (slice_index_or commands i []) (slice_index_or commands j [])
      → IsLevel commands i k → IsLevel commands j l → k < l
  IsLevel-rises i j k l before conflict p q =
      let longer = q.longest (i ∷ p.chain.0) (before, conflict, p.chain.1) in
      omega (arith, p.chain.2)

  -- numbers that rise with conflicts are at least the length of each climb
  pub Climbs-length : (f : ℕ → ℕ) → RisesWithConflicts commands f → (j : ℕ) (is : List ℕ)
      → Climbs commands j is → length is ≤ f j
  Climbs-length f rises j [] climbs = omega arith
  Climbs-length f rises j (i ∷ is) climbs =
      let rest = Climbs-length f rises i is climbs.2 in
      let step = rises i j climbs.0 climbs.1 in
      omega arith

  -- a level is at most any such number
  pub IsLevel-least : (f : ℕ → ℕ) → RisesWithConflicts commands f → (j l : ℕ)
      → IsLevel commands j l → l ≤ f j
  IsLevel-least f rises j l level =
      let climb = Climbs-length f rises j level.chain.0 level.chain.1 in
      omega (arith, level.chain.2)

  -- two commands of one level do not conflict
  pub IsLevel-no_conflict : (i j l : ℕ) → i ≢ j → IsLevel commands i l → IsLevel commands j l
      → ¬ ConflictAt commands i j
  IsLevel-no_conflict i j l other p q conflict =
      elim (cases_lt i j) [
        | inl before ↦ let less = IsLevel-rises i j l l before conflict p q in omega arith
        | inr after ↦
            let turned = Conflict-symm (slice_index_or commands i [])
            (slice_index_or commands j []) conflict in
            let less = IsLevel-rises j i l l (omega arith) turned q p in
            omega arith
      ]

  -- two lists of the levels of the commands are equal
  pub AreLevels-unique : (ks ls : List ℕ) → AreLevels commands ks → AreLevels commands ls → ks ≡ ls
  AreLevels-unique ks ls p q =
      same_lists ks ls (p.whole ∙ sym q.whole) (λ j d low.
      let same = IsLevel-unique j (get_or ks j 0) (get_or ls j 0)
      (p.each j (omega (arith, p.whole))) (q.each j (omega (arith, p.whole))) in
      get_or_default ks j d 0 low ∙ same ∙ get_or_default ls j 0 d
      (omega (arith, p.whole, q.whole)))

  -- each number below the level of a position is the level of a position
  pub level-below : (levels : List ℕ) → AreLevels commands levels → (n l j : ℕ)
      → j < length commands → get_or levels j 0 ≡ l + n
      → (i : ℕ) × (i < length commands) × (get_or levels i 0 ≡ l)
  level-below levels are zero l j low at = (j, low, omega arith)
  level-below levels are (suc n) l j low at =
      by (are.each j low).chain.0 (are.each j low).chain.1
      (omega (arith, (are.each j low).chain.2)) (λ i. level-below levels are n l i) where
        by : (is : List ℕ) → Climbs commands j is → length is ≡ suc (l + n)
            → ((i : ℕ) → i < length commands → get_or levels i 0 ≡ l + n
            → (i : ℕ) × (i < length commands) × (get_or levels i 0 ≡ l))
            → (i : ℕ) × (i < length commands) × (get_or levels i 0 ≡ l)
        by [] climbs long next = absurd (omega arith)
        by (i ∷ is) climbs long next =
            let low' : i < length commands = omega (arith, climbs.0) in
            let less = IsLevel-rises i j (get_or levels i 0) (get_or levels j 0) climbs.0 climbs.1
            (are.each i low') (are.each j low) in
            let rest = (are.each i low').longest is climbs.2 in
            next i low' (omega arith)

-- ---- one more command

module _ (commands : List (List Op)) (ops : List Op) where
  -- the earlier commands are unchanged
  at_old : (i : ℕ) → i < length commands
      → get_or (commands ++ ops ∷ []) i [] ≡ get_or commands i []
  at_old i low = get_or_append_left commands (ops ∷ []) [] i low

  ConflictAt-longer : (i j : ℕ) → i < length commands → j < length commands
      → ConflictAt commands i j → ConflictAt (commands ++ ops ∷ []) i j
  ConflictAt-longer i j low low' h =
      subst (λ b. Conflict (get_or (commands ++ ops ∷ []) i []) b) (sym (at_old j low'))
      (subst (λ a. Conflict a (get_or commands j [])) (sym (at_old i low)) h)

  ConflictAt-shorter : (i j : ℕ) → i < length commands → j < length commands
      → ConflictAt (commands ++ ops ∷ []) i j → ConflictAt commands i j
  ConflictAt-shorter i j low low' h =
      subst (λ b. Conflict (get_or commands i []) b) (at_old j low')
      (subst (λ a. Conflict a (get_or (commands ++ ops ∷ []) j [])) (at_old i low) h)

  Climbs-longer : (j : ℕ) (is : List ℕ) → j < length commands → Climbs commands j is
      → Climbs (commands ++ ops ∷ []) j is
  Climbs-longer j [] low climbs = climbs
  Climbs-longer j (i ∷ is) low climbs =
      let low' : i < length commands = omega (arith, climbs.0) in
      (climbs.0, ConflictAt-longer i j low' low climbs.1, Climbs-longer i is low' climbs.2)

  Climbs-shorter : (j : ℕ) (is : List ℕ) → j < length commands → Climbs (commands ++ ops ∷ []) j is
      → Climbs commands j is
  Climbs-shorter j [] low climbs = climbs
  Climbs-shorter j (i ∷ is) low climbs =
      let low' : i < length commands = omega (arith, climbs.0) in
      (climbs.0, ConflictAt-shorter i j low' low climbs.1, Climbs-shorter i is low' climbs.2)

  IsLevel-longer : (j l : ℕ) → j < length commands → IsLevel commands j l
      → IsLevel (commands ++ ops ∷ []) j l
  IsLevel-longer j l low is = record {
    chain = (is.chain.0, Climbs-longer j is.chain.0 low is.chain.1, is.chain.2);
    longest = λ positions climbs. is.longest positions (Climbs-shorter j positions low climbs);
  }

  -- the least level above those of all earlier commands that conflict
  pub AreLevels-push : (levels : List ℕ) (level : ℕ) → AreLevels commands levels
      → ((i : ℕ) → i < length commands → Conflict (get_or commands i []) ops
      → get_or levels i 0 < level)
      → (level ≡ 0) ⊎ ((i : ℕ) × (i < length commands) × Conflict (get_or commands i []) ops
      × (level ≡ suc (get_or levels i 0)))
      → AreLevels (commands ++ ops ∷ []) (levels ++ level ∷ [])
  AreLevels-push levels level are above reached = record {
    whole = length_push levels level ∙ ap (λ n. n + 1) are.whole ∙ sym (length_push commands ops);
    each = λ j low. elim (cases_lt j (length commands)) [
      | inl old ↦ subst (IsLevel (commands ++ ops ∷ []) j)
          (sym (get_or_append_left levels (level ∷ []) 0 j (omega (arith, are.whole))))
          (IsLevel-longer j (get_or levels j 0) old (are.each j old))
      | inr last ↦
          let same : length commands ≡ j = omega (arith, length_push commands ops) in
          subst (λ i. IsLevel (commands ++ ops ∷ []) i (get_or (levels ++ level ∷ []) i 0)) same
          (subst (IsLevel (commands ++ ops ∷ []) (length commands))
          (sym (get_or_push levels level 0 (length commands) are.whole)) new)
    ];
  } where
    at_new : get_or (commands ++ ops ∷ []) (length commands) [] ≡ ops
    at_new = get_or_push commands ops [] (length commands) refl

    meets : (i : ℕ) → i < length commands → ConflictAt (commands ++ ops ∷ []) i (length commands)
        → Conflict (get_or commands i []) ops
    meets i low h = subst (λ b. Conflict (get_or commands i []) b) at_new
        (subst (λ a. Conflict a (get_or (commands ++ ops ∷ []) (length commands) []))
        (at_old i low) h)

    meets_back : (i : ℕ) → i < length commands → Conflict (get_or commands i []) ops
        → ConflictAt (commands ++ ops ∷ []) i (length commands)
    meets_back i low h = subst (λ b. Conflict (get_or (commands ++ ops ∷ []) i []) b) (sym at_new)
        (subst (λ a. Conflict a ops) (sym (at_old i low)) h)

    longest : (is : List ℕ) → Climbs (commands ++ ops ∷ []) (length commands) is
        → length is ≤ level
    longest [] climbs = omega arith
    longest (i ∷ is) climbs =
        let less = above i climbs.0 (meets i climbs.0 climbs.1) in
        let rest = (are.each i climbs.0).longest is (Climbs-shorter i is climbs.0 climbs.2) in
        omega arith

    new : IsLevel (commands ++ ops ∷ []) (length commands) level
    new = record {
      chain = elim reached [
        | inl none ↦ ([], tt, sym none)
        | inr (i, low, h, e) ↦
            let below = (are.each i low).chain in (
              i ∷ below.0,
              (low, meets_back i low h, Climbs-longer i below.0 low below.1),
              omega (arith, below.2),
            )
      ];
      longest = longest;
    }

-- ---- the number of levels is least

same_number : (m n : ℕ) → nat_eq m n ≡ true → m ≡ n
same_number m n e = grind (arith, nat_tests)

-- the greatest level is the level of a position
level_count-reached : (levels : List ℕ) → 0 < level_count levels
    → (j : ℕ) × (j < length levels) × (suc (get_or levels j 0) ≡ level_count levels)
level_count-reached [] some = absurd (omega arith)
level_count-reached (level ∷ levels) some =
    elim (cases_lt (suc level) (level_count levels)) [
      | inl higher ↦
          let rest = level_count-reached levels (omega arith) in
          (suc rest.0, omega (arith, rest.1), omega (arith, rest.2))
      | inr first ↦ (0, omega arith, omega arith)
    ]

module _ (commands : List (List Op)) (f : ℕ → ℕ) (rises : RisesWithConflicts commands f) where
  -- the numbers of a chain are below that of its end
  falls : (j : ℕ) (is : List ℕ) → Climbs commands j is → (n : ℕ) → Contains (map f is) n → n < f j
  falls j [] climbs n h = absurd (Contains-nil n h)
  falls j (i ∷ is) climbs n h =
      let step = rises i j climbs.0 climbs.1 in
      elim (Contains-cons_cases (f i) (map f is) n h) [
        | inl here ↦ omega arith
        | inr later ↦ let less = falls i is climbs.2 n later in omega arith
      ]

  -- so they are distinct
  distinct : (j : ℕ) (is : List ℕ) → Climbs commands j is → IsDistinct nat_eq (map f (j ∷ is))
  unfolding IsDistinct
  distinct j [] climbs = (tt, tt)
  distinct j (i ∷ is) climbs = (
    recursion_from_All (λ n. nat_eq (f j) n ≡ false) (map f (i ∷ is)) (λ k d low.
        let less = falls j (i ∷ is) climbs (get_or (map f (i ∷ is)) k d)
        (Contains-get_or (map f (i ∷ is)) k d low) in
        grind (arith, nat_tests)),
    distinct i is climbs.2,
  )

  -- there are at least as many numbers that rise with conflicts as levels
  pub level_count-least : (levels : List ℕ) → AreLevels commands levels → (numbers : List ℕ)
      → ((j : ℕ) → j < length commands → Contains numbers (f j))
      → level_count levels ≤ length numbers
  level_count-least levels are numbers all =
      elim (cases_lt 0 (level_count levels)) [
        | inl some ↦
            let top = level_count-reached levels some in
            let low : top.0 < length commands = omega (arith, top.1, are.whole) in
            let chain = (are.each top.0 low).chain in
            let few = length-le_from_is_member nat_eq_equiv (map f (top.0 ∷ chain.0)) numbers
            (distinct top.0 chain.0 chain.1) (λ q h.
            list_any-from_Contains nat_eq_equiv q numbers
            (within top.0 chain.0 low chain.1 q
            (Contains-from_any {eq = nat_eq} same_number q (map f (top.0 ∷ chain.0)) h))) in
            omega (arith, top.2, chain.2, length-map (top.0 ∷ chain.0) f)
        | inr none ↦ omega arith
      ]
    where
      within : (j : ℕ) (is : List ℕ) → j < length commands → Climbs commands j is → (n : ℕ)
          → Contains (map f (j ∷ is)) n → Contains numbers n
      within j [] low climbs n h =
          elim (Contains-cons_cases (f j) [] n h) [
            | inl here ↦ subst (Contains numbers) here (all j low)
            | inr later ↦ absurd (Contains-nil n later)
          ]
      within j (i ∷ is) low climbs n h =
          elim (Contains-cons_cases (f j) (map f (i ∷ is)) n h) [
            | inl here ↦ subst (Contains numbers) here (all j low)
            | inr later ↦ within i is (omega (arith, climbs.0)) climbs.2 n later
          ]

-- each level is that of some position
pub each_level-reached : (commands : List (List Op)) (levels : List ℕ) → AreLevels commands levels
    → (l : ℕ) → l < level_count levels → Contains levels l
each_level-reached commands levels are l low =
    let top = level_count-reached levels (omega arith) in
    let position = level-below commands levels are (get_or levels top.0 0 - l) l top.0
    (omega (arith, top.1, are.whole)) (omega (arith, top.2)) in
    subst (Contains levels) position.2
    (Contains-get_or levels position.0 0 (omega (arith, position.1, are.whole)))
