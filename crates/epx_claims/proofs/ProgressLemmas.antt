-- How far a seat is: one more than the greatest piece that it has drawn.
use Rattle.std.proofs.Common.{◌≡◌, ℕ, ◌+◌, ◌<◌, ◌≤◌, ◌-◌, max, List, [], ◌∷◌, ◌++◌, arith}
use Rattle.epx_types.proofs.Common.{All, All-head, All-tail}

abbrev pub next_above : List ℕ → ℕ
next_above [] = 0
next_above (x ∷ xs) = max (x + 1) (next_above xs)

next_above-push : (xs : List ℕ) (p : ℕ) → next_above (xs ++ p ∷ []) ≡ max (next_above xs) (p + 1)
next_above-push [] p = omega arith
next_above-push (x ∷ xs) p = omega (arith, next_above-push xs p)

past_below : (xs : List ℕ) (p : ℕ) → All (λ q. q < p) xs → next_above xs ≤ p
past_below [] p all = omega arith
past_below (x ∷ xs) p all =
    let first : x < p = All-head (λ q. q < p) x xs all in
    let others = past_below xs p (All-tail (λ q. q < p) x xs all) in
    omega arith

-- each piece moves a seat closer to the end
pub next_above-draw : (xs : List ℕ) (p n : ℕ) → All (λ q. q < p) xs → p < n
    → n - next_above (xs ++ p ∷ []) < n - next_above xs
next_above-draw xs p n all inside = let a = next_above-push xs p in let b = past_below xs p all in
    omega arith
