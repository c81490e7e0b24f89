-- Rows of one list: one for each end, each inside the list; appended they are the list.
use Rattle.std.proofs.Common.{◌≡◌, ℕ, zero, suc, ◌+◌, ◌-◌, ◌<◌, ◌≤◌, List, [], ◌∷◌, ◌++◌, length}
use Rattle.std.proofs.Common.{take, drop, get_or, refl, sym, ap, ◌∙◌, arith, slice_range}
use Rattle.epx_types.proofs.Common.{concat, length-drop, take_all, drop_all, drop-drop}
use Rattle.epx_types.proofs.Common.{take-append-drop, take-append-le, drop-append-le}
use Rattle.epx_rows.specs.between.Rows.{row_of}
use Rattle.epx_rows.specs.RowEnds.{rows_from, AreRowEnds}

pub length-rows_from : (start : ℕ) (ends numbers : List ℕ)
    → length (rows_from start ends numbers) ≡ length ends
length-rows_from start [] numbers = refl
length-rows_from start (end ∷ ends) numbers = omega (arith, length-rows_from end ends numbers)

-- a row goes from the end of the row before it to its own end
pub row_of-rows_from : (start : ℕ) (ends numbers : List ℕ) (k : ℕ) → k < length ends
    → row_of (rows_from start ends numbers) k
    ≡ slice_range numbers (get_or (start ∷ ends) k 0) (get_or ends k 0)
row_of-rows_from start [] numbers k l = absurd (omega arith)
row_of-rows_from start (end ∷ ends) numbers zero l = refl
row_of-rows_from start (end ∷ ends) numbers (suc k) l =
    row_of-rows_from end ends numbers k (omega arith)

pub AreRowEnds-start_within : (start : ℕ) (ends : List ℕ) (n : ℕ) → AreRowEnds start ends n
    → start ≤ n
AreRowEnds-start_within start [] n h = omega arith
AreRowEnds-start_within start (end ∷ ends) n h = let rest =
    AreRowEnds-start_within end ends n h.1 in omega arith

-- a row ends at or after its start, and inside the list
pub AreRowEnds-rise : (start : ℕ) (ends : List ℕ) (n : ℕ) → AreRowEnds start ends n → (k : ℕ)
    → k < length ends → (get_or (start ∷ ends) k 0 ≤ get_or ends k 0) × (get_or ends k 0 ≤ n)
AreRowEnds-rise start [] n h k l = absurd (omega arith)
AreRowEnds-rise start (end ∷ ends) n h zero l = (h.0, AreRowEnds-start_within end ends n h.1)
AreRowEnds-rise start (end ∷ ends) n h (suc k) l = AreRowEnds-rise end ends n h.1 k (omega arith)

-- ---- more numbers, and one more row

pub slice_range-append : (numbers more : List ℕ) (a b : ℕ) → a ≤ b → b ≤ length numbers
    → slice_range (numbers ++ more) a b ≡ slice_range numbers a b
slice_range-append numbers more a b l within =
    ap (take (b - a)) (drop-append-le a numbers more (omega arith))
    ∙ take-append-le (b - a) (drop a numbers) more (omega (arith, length-drop a numbers))

-- further numbers leave the rows as they are
pub rows_from-more_numbers : (start : ℕ) (ends : List ℕ) (n : ℕ) (numbers more : List ℕ)
    → AreRowEnds start ends n → n ≤ length numbers
    → rows_from start ends (numbers ++ more) ≡ rows_from start ends numbers
rows_from-more_numbers start [] n numbers more h within = refl
rows_from-more_numbers start (end ∷ ends) n numbers more h within =
    let inside = AreRowEnds-start_within end ends n h.1 in
    let first = slice_range-append numbers more start end h.0 (omega arith) in
    let rest = rows_from-more_numbers end ends n numbers more h.1 within in
    λ i. first i ∷ rest i

pub AreRowEnds-push : (start : ℕ) (ends : List ℕ) (n m : ℕ) → n ≤ m → AreRowEnds start ends n
    → AreRowEnds start (ends ++ m ∷ []) m
AreRowEnds-push start [] n m l h = (omega arith, refl)
AreRowEnds-push start (end ∷ ends) n m l h = (h.0, AreRowEnds-push end ends n m l h.1)

-- the numbers after the last row are one more row
pub rows_from-push : (start : ℕ) (ends numbers : List ℕ) (n m : ℕ) → AreRowEnds start ends n
    → m ≡ length numbers
    → rows_from start (ends ++ m ∷ []) numbers ≡ rows_from start ends numbers ++ drop n numbers ∷ []
rows_from-push start [] numbers n m h all =
    let begins = ap (λ a. slice_range numbers a m) h in
    let last : slice_range numbers n m ≡ drop n numbers =
    take_all (m - n) (drop n numbers) (omega (arith, length-drop n numbers)) in
    λ i. (begins ∙ last) i ∷ []
rows_from-push start (end ∷ ends) numbers n m h all =
    let rest = rows_from-push end ends numbers n m h.1 all in
    λ i. slice_range numbers start end ∷ rest i

-- ---- the rows joined

pub concat-rows_from : (start : ℕ) (ends numbers : List ℕ) → AreRowEnds start ends (length numbers)
    → concat (rows_from start ends numbers) ≡ drop start numbers
concat-rows_from start [] numbers h = sym (drop_all start numbers (omega arith))
concat-rows_from start (end ∷ ends) numbers h =
    let same : start + (end - start) ≡ end = omega (arith, h.0) in
    ap (λ rest. slice_range numbers start end ++ rest)
    (concat-rows_from end ends numbers h.1 ∙ ap (λ k. drop k numbers) (sym same)
    ∙ sym (drop-drop (end - start) start numbers))
    ∙ take-append-drop (end - start) (drop start numbers)
