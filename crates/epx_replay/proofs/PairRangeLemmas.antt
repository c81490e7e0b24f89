-- The pairs of two lists of one length, cut at the same places.
use Rattle.std.proofs.Common.{◌≡◌, zero, suc, ◌-◌, ℕ, List, [], ◌∷◌, length, take, drop, zip, ◌≤◌}
use Rattle.std.proofs.Common.{ℤ, map, slice_range, refl, sym, ap, ◌∙◌, arith}
use Rattle.std.specs.FinMap as contents
use Rattle.std.specs.FinMap.{len-entries}
use Rattle.epx_types.proofs.Common.{length-map, Contents, piece_start, piece_end}
use Rattle.std.proofs.lemmas.Slice.Zip.{length-zip}
use Rattle.epx_claims.specs.inner.PieceItems.{items_of_piece}

-- a store with few keys has few pairs
pub length-pairs_within : {A : Type 0} (shown : A → List ℕ × ℤ) (xs : List A) (m : Contents) (n : ℕ)
    → map shown xs ≡ contents.entries m → contents.len m ≤ n → length xs ≤ n
length-pairs_within shown xs m n are few =
    omega (arith, few, len-entries m, ap length are, length-map xs shown)

pub length-zip_same : {X Y : Type 0} (xs : List X) (ys : List Y) → length ys ≡ length xs
    → length (zip xs ys) ≡ length xs
length-zip_same xs ys same = omega (arith, length-zip xs ys, same)

zip-take : {X Y : Type 0} (n : ℕ) (xs : List X) (ys : List Y)
    → zip (take n xs) (take n ys) ≡ take n (zip xs ys)
zip-take zero xs ys = refl
zip-take (suc n) [] ys = refl
zip-take (suc n) (x ∷ xs) [] = refl
zip-take (suc n) (x ∷ xs) (y ∷ ys) = ap (λ l. (x, y) ∷ l) (zip-take n xs ys)

zip-drop : {X Y : Type 0} (n : ℕ) (xs : List X) (ys : List Y) → length ys ≡ length xs
    → zip (drop n xs) (drop n ys) ≡ drop n (zip xs ys)
zip-drop zero xs ys same = refl
zip-drop (suc n) [] ys same = refl
zip-drop (suc n) (x ∷ xs) [] same = absurd (omega (arith, same))
zip-drop (suc n) (x ∷ xs) (y ∷ ys) same = zip-drop n xs ys (omega (arith, same))

zip-range : {X Y : Type 0} (start end : ℕ) (xs : List X) (ys : List Y)
    → length ys ≡ length xs
    → zip (slice_range xs start end) (slice_range ys start end) ≡ slice_range (zip xs ys) start end
zip-range start end xs ys same =
    zip-take (end - start) (drop start xs) (drop start ys)
    ∙ ap (take (end - start)) (zip-drop start xs ys same)

-- a piece of the pairs has the pairs of the pieces
pub zip-items_of_piece : {X Y : Type 0} (cut piece : ℕ) (xs : List X) (ys : List Y)
    → length ys ≡ length xs
    → zip (items_of_piece cut xs piece)
    (slice_range ys (piece_start cut piece) (piece_end cut (length xs) piece))
    ≡ items_of_piece cut (zip xs ys) piece
zip-items_of_piece cut piece xs ys same =
    zip-range (piece_start cut piece) (piece_end cut (length xs) piece) xs ys same
    ∙ ap (λ n. slice_range (zip xs ys) (piece_start cut piece) (piece_end cut n piece))
    (sym (length-zip_same xs ys same))
