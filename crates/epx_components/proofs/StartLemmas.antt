-- Rising lists of starts, and the positions from a group on, after starts are added or cut.
use Rattle.std.proofs.Common.{◌≡◌, ℕ, ◌<◌, ◌≤◌, ⊎_elim, List, [], ◌∷◌, ◌++◌, length, get_or, take}
use Rattle.std.proofs.Common.{refl, sym, subst, ◌∙◌, arith, length-take}
use Rattle.epx_types.proofs.Common.{get_or-take, get_or_append_left, get_or_push, length_push}
use Rattle.epx_types.proofs.Common.{get_or_past, cases_lt}
use Rattle.epx_components.specs.inner.Starts.{IsInGroupFrom, AreRisingBelow}

-- an element of a list with one more at its end
pub get_or-push_cases : (xs : List ℕ) (x : ℕ) (P : ℕ → ℕ → Type 0)
    → ((i : ℕ) → i < length xs → P i (get_or xs i 0)) → P (length xs) x → (i : ℕ)
    → i < length (xs ++ x ∷ []) → P i (get_or (xs ++ x ∷ []) i 0)
get_or-push_cases xs x P old new i h =
    ⊎_elim
    (λ (l : i < length xs). subst (P i) (sym (get_or_append_left xs (x ∷ []) 0 i l)) (old i l))
    (λ (l : length xs ≤ i). let e : length xs ≡ i = omega (arith, length_push xs x) in
    let Q : ℕ → Type 0 = λ j. P j (get_or (xs ++ x ∷ []) j 0) in
    subst Q e (subst (P (length xs)) (sym (get_or_push xs x 0 (length xs) refl)) new))
    (cases_lt i (length xs))

pub AreRisingBelow-push : (xs : List ℕ) (x n : ℕ) → AreRisingBelow xs x → x < n
    → AreRisingBelow (xs ++ x ∷ []) n
AreRisingBelow-push xs x n old lt = record {
  below = get_or-push_cases xs x (λ _ y. y < n) (λ i l. omega (arith, old.below i l)) lt;
  rises = λ i j le l. get_or-push_cases xs x (λ b y. i < b → get_or (xs ++ x ∷ []) i 0 < y)
      (λ b in' h. let k : i < length xs = omega arith in
      rw get_or_append_left (old.rises i b h in'))
      (λ h. rw get_or_append_left (old.below i h))
      j l le;
}

pub AreRisingBelow-take : (xs : List ℕ) (m n k : ℕ) → AreRisingBelow xs n
    → ((i : ℕ) → i < m → i < length xs → get_or xs i 0 < k) → AreRisingBelow (take m xs) k
AreRisingBelow-take xs m n k old low = record {
  below = λ i l.
      let in' : i < m = omega (arith, length-take m xs) in
      rw (get_or-take m xs i 0) (low i in' (omega (arith, length-take m xs)));
  rises = λ i j le l.
      let in' : j < m = omega (arith, length-take m xs) in
      let low : i < m = omega arith in
      rw (get_or-take m xs i 0, get_or-take m xs j 0)
      (old.rises i j le (omega (arith, length-take m xs)));
}

-- the first of the numbers, or 0
pub get_or-take_first : (xs : List ℕ) (m : ℕ) → get_or xs 0 0 ≡ 0 → get_or (take m xs) 0 0 ≡ 0
get_or-take_first xs m h = ⊎_elim (λ (l : 0 < m). get_or-take m xs 0 0 l ∙ h)
    (λ (l : m ≤ 0). get_or_past (take m xs) 0 0 (omega (arith, length-take m xs))) (cases_lt 0 m)

pub get_or-push_first : (xs : List ℕ) (x : ℕ) → get_or xs 0 0 ≡ 0 → (0 < x → 0 < length xs)
    → get_or (xs ++ x ∷ []) 0 0 ≡ 0
get_or-push_first [] x h some = let none : x ≡ 0 =
    ⊎_elim (λ (l : 0 < x). absurd (omega (arith, some l))) (λ (l : x ≤ 0). omega arith)
    (cases_lt 0 x) in none
get_or-push_first (y ∷ xs) x h some = h

pub IsInGroupFrom-push : (starts : List ℕ) (m p q : ℕ) → p < m → IsInGroupFrom starts p q
    → IsInGroupFrom (starts ++ m ∷ []) p q
IsInGroupFrom-push starts m p q l h =
    get_or-push_cases starts m (λ _ b. b ≤ p → b ≤ q) h (λ le. absurd (omega arith))

pub IsInGroupFrom-unpush : (starts : List ℕ) (m p q : ℕ) → IsInGroupFrom (starts ++ m ∷ []) p q
    → IsInGroupFrom starts p q
IsInGroupFrom-unpush starts m p q h i l =
    let here = h i (omega (arith, length_push starts m)) in
    rw (get_or_append_left starts (m ∷ []) 0 i l) at here

pub IsInGroupFrom-pushed : (starts : List ℕ) (m p q : ℕ) → m ≤ p
    → IsInGroupFrom (starts ++ m ∷ []) p q → m ≤ q
IsInGroupFrom-pushed starts m p q le h =
    let at = get_or_push starts m 0 (length starts) refl in
    omega (arith, at, h (length starts) (omega (arith, length_push starts m)))

pub IsInGroupFrom-take : (starts : List ℕ) (n p q : ℕ) → IsInGroupFrom starts p q
    → IsInGroupFrom (take n starts) p q
IsInGroupFrom-take starts n p q h i l =
    let in' : i < n = omega (arith, length-take n starts) in
    let all : i < length starts = omega (arith, length-take n starts) in
    rw (get_or-take n starts i 0) (h i all)

-- what holds of the starts left, if the starts that were cut are greater than p
pub IsInGroupFrom-untake : (starts : List ℕ) (n p q : ℕ)
    → ((i : ℕ) → n ≤ i → i < length starts → p < get_or starts i 0)
    → IsInGroupFrom (take n starts) p q → IsInGroupFrom starts p q
IsInGroupFrom-untake starts n p q past h i l le =
    ⊎_elim
    (λ (in' : i < n). let k : i < length (take n starts) = omega (arith, length-take n starts) in
    (rw (get_or-take n starts i 0 in') at (h i k)) le)
    (λ (out : n ≤ i). absurd (omega (arith, past i out l)))
    (cases_lt i n)
