-- The first lines of a state begin a state.
use Rattle.std.proofs.Common.{◌≡◌, ℕ, zero, suc, ◌-◌, Bool, true, false, ◌&&◌, List, [], ◌∷◌}
use Rattle.std.proofs.Common.{◌++◌, length, map, take, get_or, Option, Some, IsTrue, Contains}
use Rattle.std.proofs.Common.{AllPairs, refl, sym, ap, ◌∙◌, subst, arith, inl, inr}
use Rattle.std.proofs.lemmas.List.{get_or-take, length-take, take-map}
use Rattle.std.proofs.lemmas.List.Elements.{All-take}
use Rattle.std.specs.FinMap.{is_sorted}
use Rattle.std.specs.FinMap.Entries.{below_all}
use Rattle.std.specs.Ordering.{is_lt}
use Rattle.std.specs.declared.cmp.Ordering.{Ordering}
use Rattle.epx_types.proofs.Common.{and_parts, key_cmp, ids_of, Below, BelowAll, IsRising}
use Rattle.epx_types.proofs.Common.{Instance, Contains-nil, Contains-cons, Contains-cons_cases}
use Rattle.epx_types.proofs.Common.{Contains-head}
use Rattle.epx_types.specs.declared.id.Id.{Id}
use Rattle.epx_lines.specs.Lines.{lines_of}
use Rattle.epx_report.specs.BadLines.{IsFirstNotGood}
use Rattle.epx_executor.specs.declared.done_runs.Run.{Run}
use Rattle.epx_executor.specs.Runs.{IsFilledRun, end_of, start_of}
use Rattle.epx_state.specs.declared.forms.StateCounts.{StateCounts}
use Rattle.epx_state.specs.StateForms.{StateParts, state_counts, entry_of_line}
use Rattle.epx_state.specs.StateForms.{pair_of_line, run_of_line}
use Rattle.epx_state.specs.States.{AreInOrder, FitCounts, BeginState, IsState, SayState}
use Rattle.epx_state.proofs.SectionLemmas.{length-said}

-- ---- the first elements of lists

take-append : {A : Type 0} (n : ℕ) (xs ys : List A)
    → take n (xs ++ ys) ≡ take n xs ++ take (n - length xs) ys
take-append zero [] ys = refl
take-append zero (x ∷ xs) ys =
    let none : 0 ≡ 0 - length (x ∷ xs) = omega arith in ap (λ k. take k ys) none
take-append (suc n) [] ys =
    let all : suc n ≡ suc n - 0 = omega arith in ap (λ k. take k ys) all
take-append (suc n) (x ∷ xs) ys =
    let left : n - length xs ≡ suc n - length (x ∷ xs) = omega arith in
    ap (λ rest. x ∷ rest) (take-append n xs ys ∙ ap (λ k. take n xs ++ take k ys) left)

Contains-take : {A : Type 0} (n : ℕ) (xs : List A) (x : A) → Contains (take n xs) x
    → Contains xs x
Contains-take zero xs x h = absurd (Contains-nil x h)
Contains-take (suc n) [] x h = h
Contains-take (suc n) (y ∷ xs) x h = elim (Contains-cons_cases y (take n xs) x h) [
  | inl same ↦ subst (Contains (y ∷ xs)) same (Contains-head y xs)
  | inr rest ↦ Contains-cons y xs x (Contains-take n xs x rest)
]

AllPairs-take : {A : Type 0} (R : A → A → Type 0) (n : ℕ) (xs : List A) → AllPairs R xs
    → AllPairs R (take n xs)
AllPairs-take R n xs h i j d before within =
    let few = length-take n xs in
    subst (λ x. R x (get_or (take n xs) j d)) (sym (get_or-take n xs i d (omega arith)))
    (subst (R (get_or xs i d)) (sym (get_or-take n xs j d (omega arith)))
    (h i j d before (omega arith)))

BelowAll-take : (x : Id) (n : ℕ) (ids : List Id) → BelowAll x ids → BelowAll x (take n ids)
BelowAll-take x zero ids h = tt
BelowAll-take x (suc n) [] h = tt
BelowAll-take x (suc n) (y ∷ ids) h = (h.0, BelowAll-take x n ids h.1)

IsRising-take : (n : ℕ) (ids : List Id) → IsRising ids → IsRising (take n ids)
IsRising-take zero ids h = tt
IsRising-take (suc n) [] h = tt
IsRising-take (suc n) (x ∷ ids) h = (BelowAll-take x n ids h.0, IsRising-take n ids h.1)

both : (a b : Bool) → a ≡ true → b ≡ true → (a && b) ≡ true
both true b h k = k
both false b h k = h

module _ {K X : Type 0} (R : K → K → Ordering) where
  below_all-take : (k : K) (n : ℕ) (es : List (K × X)) → below_all R k es ≡ true
      → below_all R k (take n es) ≡ true
  below_all-take k zero es h = refl
  below_all-take k (suc n) [] h = refl
  below_all-take k (suc n) (e ∷ es) h =
      let parts = and_parts (is_lt (R k e.0)) (below_all R k es) h in
      both (is_lt (R k e.0)) (below_all R k (take n es)) parts.0
      (below_all-take k n es parts.1)

  is_sorted-take : (n : ℕ) (es : List (K × X)) → IsTrue (is_sorted R es)
      → IsTrue (is_sorted R (take n es))
  is_sorted-take zero es h = refl
  is_sorted-take (suc n) [] h = refl
  is_sorted-take (suc n) (e ∷ es) h =
      let parts = and_parts (below_all R e.0 es) (is_sorted R es) h in
      both (below_all R e.0 (take n es)) (is_sorted R (take n es))
      (below_all-take e.0 n es parts.0) (is_sorted-take n es parts.1)

none_taken : {A : Type 0} (n : ℕ) (xs : List A) → n ≡ 0 → take n xs ≡ []
none_taken n xs e = ap (λ k. take k xs) e

-- ---- the first lines of a section

said-take : {A : Type 0} (form : List ℕ → Option A) (n : ℕ) (xs : List (List ℕ)) (vs : List A)
    → map form xs ≡ map Some vs → map form (take n xs) ≡ map Some (take n vs)
said-take form n xs vs h = sym (take-map form n xs) ∙ ap (take n) h ∙ take-map Some n vs

-- ---- the first lines of a state

module _ (p : StateParts) (n : ℕ) where
  -- the parts that the first n lines after the first one say
  first_parts : StateParts
  first_parts = record {
    runs = take n p.runs;
    waiting = take (n - length p.runs) p.waiting;
    stored = take (n - length p.runs - length p.waiting) p.stored;
  }

  ordered-take : AreInOrder p → AreInOrder first_parts
  unfolding first_parts
  ordered-take h = record {
    runs = record {
      filled = All-take IsFilledRun n p.runs h.runs.filled;
      apart = AllPairs-take (λ (a b : Run). Below (end_of a) (start_of b)) n p.runs h.runs.apart;
    };
    waiting = subst IsRising (take-map (λ (e : Instance). e.id) (n - length p.runs) p.waiting)
        (IsRising-take (n - length p.runs) (ids_of p.waiting) h.waiting);
    left = λ e there among. h.left e (Contains-take (n - length p.runs) p.waiting e there)
        (among.0, Contains-take n p.runs among.0 among.1, among.2);
    stored = is_sorted-take key_cmp (n - length p.runs - length p.waiting) p.stored h.stored;
  }

  within-take : FitCounts (state_counts p) first_parts
  unfolding first_parts
  within-take =
      let runs = length-take n p.runs in
      let waiting = length-take (n - length p.runs) p.waiting in
      let stored = length-take (n - length p.runs - length p.waiting) p.stored in record {
        runs = omega arith;
        waiting = omega arith;
        stored = omega arith;
        runs_first = λ few. (
          none_taken (n - length p.runs) p.waiting (omega arith),
          none_taken (n - length p.runs - length p.waiting) p.stored (omega arith),
        );
        waiting_next = λ few.
            none_taken (n - length p.runs - length p.waiting) p.stored (omega arith);
      }

  say-take : (lines : List (List ℕ)) → SayState lines (state_counts p) p
      → SayState (take (suc n) lines) (state_counts p) first_parts
  unfolding first_parts
  say-take lines h =
      let runs = length-said run_of_line h.runs p.runs h.runs_said in
      let waiting = length-said entry_of_line h.waiting p.waiting h.waiting_said in
      record {
        first = h.first;
        runs = take n h.runs;
        waiting = take (n - length p.runs) h.waiting;
        stored = take (n - length p.runs - length p.waiting) h.stored;
        cut =
            ap (take (suc n)) h.cut
            ∙ ap (λ rest. h.first ∷ rest) (take-append n h.runs (h.waiting ++ h.stored)
            ∙ ap (λ k. take n h.runs ++ take (n - k) (h.waiting ++ h.stored)) runs
            ∙ ap (λ rest. take n h.runs ++ rest)
            (take-append (n - length p.runs) h.waiting h.stored
            ∙ ap (λ k. take (n - length p.runs) h.waiting
            ++ take (n - length p.runs - k) h.stored) waiting));
        counts_said = h.counts_said;
        runs_said = said-take run_of_line n h.runs p.runs h.runs_said;
        waiting_said =
            said-take entry_of_line (n - length p.runs) h.waiting p.waiting h.waiting_said;
        stored_said = said-take pair_of_line (n - length p.runs - length p.waiting) h.stored
            p.stored h.stored_said;
      }

begin : (lines : List (List ℕ)) (c : StateCounts) (p : StateParts) → SayState lines c p
    → AreInOrder p → FitCounts c p → BeginState lines
begin [] c p said ordered within = tt
begin (line ∷ lines) c p said ordered within = (c, p, said, ordered, within)

pub BeginState-take : (bytes : List ℕ) (p : StateParts) → IsState bytes p → (n : ℕ)
    → BeginState (take n (lines_of bytes))
BeginState-take bytes p h zero = tt
BeginState-take bytes p h (suc n) =
    begin (take (suc n) (lines_of bytes)) (state_counts p) (first_parts p n)
    (say-take p n (lines_of bytes) h.said) (ordered-take p n h.ordered) (within-take p n)

-- each line of a state may follow the lines before it
pub IsFirstNotGood-never : (bytes : List ℕ) (p : StateParts) → IsState bytes p → (line : ℕ)
    → ¬ IsFirstNotGood BeginState (lines_of bytes) line
IsFirstNotGood-never bytes p h line bad = bad.bad_with (BeginState-take bytes p h line)
