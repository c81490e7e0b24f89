-- The laws of `lines_of`: its description without recursion.
use Rattle.std.proofs.Common.{◌≡◌, ℕ, zero, suc, ◌-◌, Bool, true, false, cond, eqb, nat_lt, not}
use Rattle.std.proofs.Common.{◌&&◌, tests, List, [], ◌∷◌, ◌++◌, length, refl, sym, ap, ap₂, subst}
use Rattle.std.proofs.Common.{append_assoc, ◌∙◌, arith, rules}
use Rattle.epx_types.proofs.Common.{nat_tests, eqb-true, All-nil, All-cons, All, Contains-head}
use Rattle.epx_types.proofs.Common.{Contains-cons}
use Rattle.std.specs.List.{Contains}
use Rattle.epx_lines.specs.Lines.{prepend_to_first, lines_of, lacks_line_feed, with_line_feeds}
use Rattle.epx_lines.specs.Lines.{AreLinesOf}

-- ---- no line contains a line feed

no_feed-nil : ¬ Contains {X = ℕ} [] 10
no_feed-nil h = absurd (omega (arith, h.1))

no_feed-cons : (b : ℕ) (l : List ℕ) → eqb b 10 ≡ false → ¬ Contains l 10 → ¬ Contains (b ∷ l) 10
no_feed-cons b l e none (zero, within, is) = grind (arith, nat_tests)
no_feed-cons b l e none (suc k, within, is) = none (k, omega arith, is)

unbroken-lengthen : (b : ℕ) (ls : List (List ℕ)) → eqb b 10 ≡ false → All (λ l. ¬ Contains l 10) ls
    → All (λ l. ¬ Contains l 10) (prepend_to_first b ls)
unbroken-lengthen b [] e h = All-cons (λ l. ¬ Contains l 10) (b ∷ []) []
    (no_feed-cons b [] e no_feed-nil) (All-nil (λ l. ¬ Contains l 10))
unbroken-lengthen b (l ∷ ls) e h =
    All-cons (λ l. ¬ Contains l 10) (b ∷ l) ls (no_feed-cons b l e (h 0 [] (omega arith)))
    (λ k d within. h (suc k) d (omega arith))

unbroken-step : (t : Bool) (b : ℕ) (bs : List ℕ) → eqb b 10 ≡ t
    → All (λ l. ¬ Contains l 10) (lines_of bs)
    → All (λ l. ¬ Contains l 10) (cond t ([] ∷ lines_of bs) (prepend_to_first b (lines_of bs)))
unbroken-step true b bs e h = All-cons (λ l. ¬ Contains l 10) [] (lines_of bs) no_feed-nil h
unbroken-step false b bs e h = unbroken-lengthen b (lines_of bs) e h

unbroken_lines : (bs : List ℕ) → All (λ l. ¬ Contains l 10) (lines_of bs)
unbroken_lines [] = All-nil (λ l. ¬ Contains l 10)
unbroken_lines (b ∷ bs) = unbroken-step (eqb b 10) b bs refl (unbroken_lines bs)

-- ---- the lines, each followed by a line feed

-- the bytes, with a line feed after their last line
with_feed : List ℕ → List ℕ
with_feed [] = []
with_feed (b ∷ []) = cond (eqb b 10) (b ∷ []) (b ∷ 10 ∷ [])
with_feed (b ∷ c ∷ bs) = b ∷ with_feed (c ∷ bs)

lacks_line_feed-later : (b c : ℕ) (bs : List ℕ)
    → lacks_line_feed (b ∷ c ∷ bs) ≡ lacks_line_feed (c ∷ bs)
lacks_line_feed-later b c bs =
    let n = length bs in
    let long : nat_lt 0 (suc (suc n)) ≡ true = search (rules, tests) in
    let short : nat_lt 0 (suc n) ≡ true = search (rules, tests) in
    let last_of_long : suc (suc n) - 1 ≡ suc n = omega arith in
    let last_of_short : suc n - 1 ≡ n = omega arith in
    rw (last_of_long, last_of_short, long, short)

with_feed-step : (t : Bool) (b : ℕ) (bs : List ℕ)
    → b ∷ cond t (bs ++ 10 ∷ []) bs ≡ cond t ((b ∷ bs) ++ 10 ∷ []) (b ∷ bs)
with_feed-step true b bs = refl
with_feed-step false b bs = refl

with_feed-one : (t : Bool) (b : ℕ) → cond t (b ∷ []) (b ∷ 10 ∷ [])
    ≡ cond (true && not t) (b ∷ 10 ∷ []) (b ∷ [])
with_feed-one true b = refl
with_feed-one false b = refl

with_feed-value : (bs : List ℕ) → with_feed bs ≡ cond (lacks_line_feed bs) (bs ++ 10 ∷ []) bs
unfolding with_feed
with_feed-value [] = refl
with_feed-value (b ∷ []) = with_feed-one (eqb b 10) b
with_feed-value (b ∷ c ∷ bs) =
    ap (λ l. b ∷ l) (with_feed-value (c ∷ bs)) ∙ with_feed-step _ b (c ∷ bs)
    ∙ ap (λ t. cond t (b ∷ c ∷ bs ++ 10 ∷ []) (b ∷ c ∷ bs))
    (sym (lacks_line_feed-later b c bs))

with_line_feeds-lengthen : (b : ℕ) (ls : List (List ℕ)) → (ls ≡ [] → ⊥)
    → with_line_feeds (prepend_to_first b ls) ≡ b ∷ with_line_feeds ls
with_line_feeds-lengthen b [] some = absurd (some refl)
with_line_feeds-lengthen b (l ∷ ls) some = refl

some_lengthen : (b : ℕ) (ls : List (List ℕ)) → prepend_to_first b ls ≡ [] → ⊥
some_lengthen b [] e = cc
some_lengthen b (l ∷ ls) e = cc

some_step : (t : Bool) (b : ℕ) (ls : List (List ℕ)) → cond t ([] ∷ ls) (prepend_to_first b ls) ≡ []
    → ⊥
some_step true b ls e = cc
some_step false b ls e = some_lengthen b ls e

closed_one : (t : Bool) (b : ℕ) → eqb b 10 ≡ t
    → with_line_feeds (cond t ([] ∷ []) ((b ∷ []) ∷ [])) ≡ cond t (b ∷ []) (b ∷ 10 ∷ [])
closed_one true b e = ap (λ x. x ∷ []) (sym (eqb-true b 10 e))
closed_one false b e = refl

closed_step : (t : Bool) (b : ℕ) (ls : List (List ℕ)) → eqb b 10 ≡ t → (ls ≡ [] → ⊥)
    → with_line_feeds (cond t ([] ∷ ls) (prepend_to_first b ls)) ≡ b ∷ with_line_feeds ls
closed_step true b ls e some = ap (λ x. x ∷ with_line_feeds ls) (sym (eqb-true b 10 e))
closed_step false b ls e some = with_line_feeds-lengthen b ls some

closed_lines : (bs : List ℕ) → with_line_feeds (lines_of bs) ≡ with_feed bs
unfolding with_feed
closed_lines [] = refl
closed_lines (b ∷ []) = closed_one (eqb b 10) b refl
closed_lines (b ∷ c ∷ bs) = closed_step (eqb b 10) b (lines_of (c ∷ bs)) refl
    (some_step (eqb c 10) c (lines_of bs)) ∙ ap (λ l. b ∷ l) (closed_lines (c ∷ bs))

pub AreLinesOf-lines_of : (bs : List ℕ) → AreLinesOf bs (lines_of bs)
AreLinesOf-lines_of bs = record {
  unbroken = unbroken_lines bs;
  whole = closed_lines bs ∙ with_feed-value bs;
}

-- ---- no other list of lines satisfies the description

-- what is before the first line feed and what is after it are unique
first_feed_is_unique : (l m after rest : List ℕ) → ¬ Contains l 10 → ¬ Contains m 10
    → l ++ 10 ∷ after ≡ m ++ 10 ∷ rest → (l ≡ m) × (after ≡ rest)
first_feed_is_unique [] [] after rest p q e = (refl, cc)
first_feed_is_unique [] (y ∷ m) after rest p q e = let same : y ≡ 10 = cc in
    absurd (q (subst (Contains (y ∷ m)) same (Contains-head y m)))
first_feed_is_unique (x ∷ l) [] after rest p q e = let same : x ≡ 10 = cc in
    absurd (p (subst (Contains (x ∷ l)) same (Contains-head x l)))
first_feed_is_unique (x ∷ l) (y ∷ m) after rest p q e =
    let first : x ≡ y = cc in
    let more : l ++ 10 ∷ after ≡ m ++ 10 ∷ rest = cc in
    let both = first_feed_is_unique l m after rest (λ h. p (Contains-cons x l 10 h))
    (λ h. q (Contains-cons y m 10 h)) more in
    (ap₂ (λ z zs. z ∷ zs) first both.0, both.1)

some_closed : (l : List ℕ) (ls : List (List ℕ)) → with_line_feeds (l ∷ ls) ≡ [] → ⊥
some_closed [] ls e = cc
some_closed (x ∷ l) ls e = cc

closed_is_unique : (ls ms : List (List ℕ)) → All (λ l. ¬ Contains l 10) ls
    → All (λ l. ¬ Contains l 10) ms → with_line_feeds ls ≡ with_line_feeds ms → ls ≡ ms
closed_is_unique [] [] p q e = refl
closed_is_unique [] (m ∷ ms) p q e = absurd (some_closed m ms (sym e))
closed_is_unique (l ∷ ls) [] p q e = absurd (some_closed l ls e)
closed_is_unique (l ∷ ls) (m ∷ ms) p q e =
    let regrouped = sym (append_assoc l (10 ∷ []) (with_line_feeds ls)) ∙ e
    ∙ append_assoc m (10 ∷ []) (with_line_feeds ms) in
    let both = first_feed_is_unique l m (with_line_feeds ls) (with_line_feeds ms)
    (p 0 l (omega arith)) (q 0 m (omega arith)) regrouped in
    let more = closed_is_unique ls ms (λ k d within. p (suc k) d (omega arith))
    (λ k d within. q (suc k) d (omega arith)) both.1 in
    ap₂ (λ x xs. x ∷ xs) both.0 more

pub AreLinesOf-is_unique : (bs : List ℕ) (lines : List (List ℕ)) → AreLinesOf bs lines
    → lines ≡ lines_of bs
AreLinesOf-is_unique bs lines h =
    let these = AreLinesOf-lines_of bs in
    closed_is_unique lines (lines_of bs) h.unbroken these.unbroken (h.whole ∙ sym these.whole)
