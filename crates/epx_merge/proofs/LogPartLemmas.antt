-- The lines of the next part of a log follow those that are read.
use Rattle.std.proofs.Common.{◌≡◌, ◌+◌, ◌<◌, ◌≤◌, ◌^◌, ◌%◌, ◌∷◌, ◌++◌, ◌∙◌, ℕ, suc, List, [], ap}
use Rattle.std.proofs.Common.{sym, arith, append-nil, append_assoc, length, length-append, eqb, inl}
use Rattle.std.proofs.Common.{inr}
use Rattle.std.proofs.Math.Nat.{mod-eq_of_lt}
use Rattle.epx_types.proofs.Common.{cases_Bool}
use Rattle.epx_lines.specs.Lines.{lines_of, prepend_to_first}
use Rattle.epx_merge.specs.LogLines.{MeaningAt, meaning_at, meanings_in, meanings_from, meanings_of}
use Rattle.epx_merge.specs.LogParts.{EndsLine, lines_so_far}
use Rattle.epx_merge.proofs.OnwardLemmas.{lines_of-append, meanings_in-append}

-- the lines of a part of the log after these bytes
abbrev pub lines_of_part : List (List ℕ) → List ℕ → List ℕ → List MeaningAt
lines_of_part ended begun bytes =
    meanings_in (length ended) (suc (length (lines_of begun))) (lines_of bytes)

pub lines_so_far-part : (ended : List (List ℕ)) (begun bytes : List ℕ) → EndsLine begun
    → lines_so_far ended begun ++ lines_of_part ended begun bytes
    ≡ lines_so_far ended (begun ++ bytes)
lines_so_far-part ended begun bytes ends =
    let log = length ended in
    let here = meanings_in log 1 (lines_of begun) in
    let next = lines_of_part ended begun bytes in
    let more : 1 + length (lines_of begun) ≡ suc (length (lines_of begun)) = omega arith in
    let whole : meanings_in log 1 (lines_of (begun ++ bytes)) ≡ here ++ next =
    ap (meanings_in log 1) (lines_of-append begun bytes ends)
    ∙ meanings_in-append log 1 (lines_of begun) (lines_of bytes)
    ∙ ap (λ n. here ++ meanings_in log n (lines_of bytes)) more in
    append_assoc (meanings_of ended) here next ∙ ap (λ l. meanings_of ended ++ l) (sym whole)

-- the lines of these logs and of one more
meanings_from-last : (n : ℕ) (logs : List (List ℕ)) (log : List ℕ)
    → meanings_from n (logs ++ log ∷ [])
    ≡ meanings_from n logs ++ meanings_in (n + length logs) 1 (lines_of log)
meanings_from-last n [] log = let same : n ≡ n + 0 = omega arith in
    append-nil (meanings_in n 1 (lines_of log)) ∙ ap (λ k. meanings_in k 1 (lines_of log)) same
meanings_from-last n (l ∷ logs) log =
    let same : suc n + length logs ≡ n + suc (length logs) = omega arith in
    let here = meanings_in n 1 (lines_of l) in
    let last = meanings_in (suc n + length logs) 1 (lines_of log) in
    ap (λ k. here ++ k) (meanings_from-last (suc n) logs log)
    ∙ sym (append_assoc here (meanings_from (suc n) logs) last)
    ∙ ap (λ k. (here ++ meanings_from (suc n) logs) ++ meanings_in k 1 (lines_of log)) same

-- the log ends, and of the next one nothing is read
pub lines_so_far-next_log : (ended : List (List ℕ)) (log : List ℕ)
    → lines_so_far ended log ≡ lines_so_far (ended ++ log ∷ []) []
lines_so_far-next_log ended log =
    let same : 0 + length ended ≡ length ended = omega arith in
    ap (λ k. meanings_of ended ++ meanings_in k 1 (lines_of log)) (sym same)
    ∙ sym (meanings_from-last 0 ended log)
    ∙ sym (append-nil (meanings_of (ended ++ log ∷ [])))

-- a number that does not wrap
pub suc-no_wrap : (line : ℕ) → line + 1 < 2 ^ 64 → (line + 1) % (2 ^ 64) ≡ suc line
suc-no_wrap line few = mod-eq_of_lt few ∙ omega arith

-- the next line of a log, and those after it
pub meanings_in-cons : (log line next : ℕ) (bytes here more : List ℕ)
    → lines_of bytes ≡ here ∷ lines_of more → next ≡ suc line
    → meanings_in log (suc line) (lines_of bytes)
    ≡ meaning_at (record { log = log; line = next }) here
    ∷ meanings_in log (suc next) (lines_of more)
meanings_in-cons log line next bytes here more cut is =
    ap (meanings_in log (suc line)) cut
    ∙ ap (λ k. meaning_at (record { log = log; line = k }) here
    ∷ meanings_in log (suc k) (lines_of more)) (sym is)

-- bytes have no more lines than they are
pub length-lines_of_bound : (bytes : List ℕ) → length (lines_of bytes) ≤ length bytes
length-lines_of_bound [] = omega arith
length-lines_of_bound (b ∷ bs) =
    let rest = length-lines_of_bound bs in
    elim (cases_Bool (eqb b 10)) [
      | inl feed ↦ rw feed (omega arith)
      | inr other ↦ rw other (lengthened b (lines_of bs) (length bs) rest)
    ]
  where
    lengthened : (c : ℕ) (ls : List (List ℕ)) (n : ℕ) → length ls ≤ n
        → length (prepend_to_first c ls) ≤ suc n
    lengthened c [] n few = omega arith
    lengthened c (l ∷ ls) n few = omega arith

-- the number of lines, once those of a part follow whole lines
pub length-lines_of_append : (begun bytes : List ℕ) → EndsLine begun
    → length (lines_of (begun ++ bytes)) ≡ length (lines_of begun) + length (lines_of bytes)
length-lines_of_append begun bytes ends = ap length (lines_of-append begun bytes ends)
    ∙ length-append (lines_of begun) (lines_of bytes)
