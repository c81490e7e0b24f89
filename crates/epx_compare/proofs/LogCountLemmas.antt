-- Counts of items by log, after one more item.
use Rattle.std.proofs.Common.{◌≡◌, ◌∙◌, ◌+◌, ◌<◌, ◌≤◌, ◌≢◌, ◌==◌, ℕ, true, false, List, length}
use Rattle.std.proofs.Common.{take, get_or, count_by, set, inl, inr, sym, ap, subst, arith}
use Rattle.std.proofs.Common.{get_or-set_same, get_or-set_other}
use Rattle.epx_types.proofs.Common.{cases_Bool, eqb-true, length-take-le, count_by-le-length}
use Rattle.epx_types.proofs.Common.{count_by_more_no, count_by_more_yes}
use Rattle.std.proofs.lemmas.Bool.{eqb-false, ne_eqb}

module _ {X : Type 0} (log_of : X → ℕ) (xs : List X) (i : ℕ) (d : X) (within : i < length xs)
    (counts : List ℕ) (logs : ℕ)
    (counted : (l : ℕ) → l < logs
    → get_or counts l 0 ≡ count_by (λ x. log_of x == l) (take i xs)) where
  -- no count is greater than the number of items
  pub get_or-count_small : (l : ℕ) → l < logs → get_or counts l 0 ≤ i
  get_or-count_small l inside =
      let few = count_by-le-length (λ x. log_of x == l) (take i xs) in
      omega (arith, counted l inside, length-take-le i xs (omega arith))

  -- the count of the item's log is one more
  pub get_or-count_more : (log : ℕ) → log_of (get_or xs i d) ≡ log → log < length counts → (l : ℕ)
      → l < logs → get_or (set counts log (get_or counts log 0 + 1)) l 0
      ≡ count_by (λ x. log_of x == l) (take (i + 1) xs)
  get_or-count_more log own room l inside =
      elim (cases_Bool (log == l)) [
        | inl same ↦
            let is : log ≡ l = eqb-true log l same in
            let passes = ap (λ n. n == l) own ∙ same in
            subst (λ k. get_or (set counts log (get_or counts log 0 + 1)) k 0
            ≡ count_by (λ x. log_of x == l) (take (i + 1) xs)) is
            (get_or-set_same counts log (get_or counts log 0 + 1) 0 room
            ∙ (ap (λ k. get_or counts k 0 + 1) is ∙ (ap (λ n. n + 1) (counted l inside)
            ∙ sym (count_by_more_yes (λ x. log_of x == l) xs i d within passes))))
        | inr other ↦
            let apart : l ≢ log = λ e. eqb-false log l other (sym e) in
            get_or-set_other counts log l (get_or counts log 0 + 1) 0 apart
            ∙ (counted l inside ∙ sym (count_by_more_no (λ x. log_of x == l) xs i d within
            (ap (λ n. n == l) own ∙ other)))
      ]

  -- an item of another log changes no count
  pub get_or-count_same : logs ≤ log_of (get_or xs i d) → (l : ℕ) → l < logs
      → get_or counts l 0 ≡ count_by (λ x. log_of x == l) (take (i + 1) xs)
  get_or-count_same past l inside = counted l inside
      ∙ sym (count_by_more_no (λ x. log_of x == l) xs i d within
      (ne_eqb (log_of (get_or xs i d)) l (λ e. omega arith)))
