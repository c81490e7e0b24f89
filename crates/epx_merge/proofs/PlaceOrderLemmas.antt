-- The lines of logs are sorted by place.
use Rattle.std.proofs.Common.{◌≡◌, ◌⊎◌, inl, inr, ℕ, suc, ◌<◌, ◌≤◌, List, [], ◌∷◌, flat_map}
use Rattle.std.proofs.Common.{Contains, Result, Ok, Err, sym, ap, subst, subst₂, arith}
use Rattle.epx_types.proofs.Common.{nat_tests, Contains-append_cases, Placed, Earlier}
use Rattle.epx_types.proofs.Common.{HaveDistinctPlaces, Contains-nil, Contains-head, Contains-cons}
use Rattle.epx_types.proofs.Common.{Contains-cons_cases}
use Rattle.epx_types.specs.declared.place.Place.{Place}
use Rattle.epx_types.specs.declared.fault.Why.{Why}
use Rattle.epx_lines.specs.Lines.{lines_of}
use Rattle.epx_lines.specs.declared.Line.{Line}
use Rattle.epx_lines.specs.declared.Line.TheVariants.{Blank, Entry}
use Rattle.epx_merge.specs.LogLines.{MeaningAt, meaning_at, meanings_in, meanings_from, meanings_of}
use Rattle.epx_merge.specs.LogLines.{placed_at, placed_of, BadLineAt, bad_lines_at, bad_lines_of}
use Rattle.epx_committed.specs.between.LineOrder.{AreSortedBy, IsSortedByPlace}
use Rattle.epx_committed.proofs.LineOrderLemmas.{Earlier-same_log, AreSortedBy-append}
use Rattle.epx_committed.proofs.LineOrderLemmas.{HaveDistinctPlaces-sorted}
use Rattle.epx_merge.specs.Refusals.{IsFirstBadLine}

earlier_log : (p q : Place) → p.log < q.log → Earlier p q
earlier_log p q h = grind (arith, nat_tests)

-- ---- the items of each line, at its own place

module _ {Y : Type 0} (place : Y → Place) (given : MeaningAt → List Y)
    (at_line : (l : MeaningAt) (y : Y) → Contains (given l) y → place y ≡ l.place)
    (one : (l : MeaningAt) → AreSortedBy place (given l)) where
  given_by : (lines : List MeaningAt) (y : Y) → Contains (flat_map given lines) y
      → (l : MeaningAt) × Contains lines l × (place y ≡ l.place)
  given_by [] y h = absurd (Contains-nil y h)
  given_by (l ∷ lines) y h =
      elim (Contains-append_cases (given l) (flat_map given lines) y h) [
        | inl here ↦ (l, Contains-head l lines, at_line l y here)
        | inr later ↦ let r = given_by lines y later in (r.0, Contains-cons l lines r.0 r.1, r.2)
      ]

  AreSortedBy-flat_map : (lines : List MeaningAt) → AreSortedBy (λ l. l.place) lines
      → AreSortedBy place (flat_map given lines)
  AreSortedBy-flat_map [] h = tt
  AreSortedBy-flat_map (l ∷ lines) h =
      AreSortedBy-append place (given l) (flat_map given lines) (one l)
      (AreSortedBy-flat_map lines h.1) (λ x y hx hy.
      let later = given_by lines y hy in
      subst₂ Earlier (sym (at_line l x hx)) (sym later.2) (h.0 later.0 later.1))

-- ---- all lines

pub meanings_in-place : (log n : ℕ) (ls : List (List ℕ)) (x : MeaningAt)
    → Contains (meanings_in log n ls) x
    → (x.place.log ≡ log) × (n ≤ x.place.line)
meanings_in-place log n [] x h = absurd (Contains-nil x h)
meanings_in-place log n (l ∷ ls) x h =
    elim (Contains-cons_cases (meaning_at (record { log = log; line = n }) l)
    (meanings_in log (suc n) ls) x h) [
      | inl e ↦ (
        ap (λ (m : MeaningAt). m.place.log) (sym e),
        omega (arith, ap (λ (m : MeaningAt). m.place.line) e),
      )
      | inr rest ↦ let r = meanings_in-place log (suc n) ls x rest in (r.0, omega (arith, r.1))
    ]

lines_in_order : (log n : ℕ) (ls : List (List ℕ))
    → AreSortedBy (λ l. l.place) (meanings_in log n ls)
lines_in_order log n [] = tt
lines_in_order log n (l ∷ ls) = (
  (λ y h. let later = meanings_in-place log (suc n) ls y h in
      Earlier-same_log (record { log = log; line = n }) y.place (sym later.0)
      (omega (arith, later.1))),
  lines_in_order log (suc n) ls,
)

pub meanings_from-place : (n : ℕ) (logs : List (List ℕ)) (x : MeaningAt)
    → Contains (meanings_from n logs) x
    → n ≤ x.place.log
meanings_from-place n [] x h = absurd (Contains-nil x h)
meanings_from-place n (log ∷ logs) x h =
    elim (Contains-append_cases (meanings_in n 1 (lines_of log)) (meanings_from (suc n) logs) x h) [
      | inl a ↦ omega (arith, (meanings_in-place n 1 (lines_of log) x a).0)
      | inr b ↦ omega (arith, meanings_from-place (suc n) logs x b)
    ]

logs_in_order : (n : ℕ) (logs : List (List ℕ)) → AreSortedBy (λ l. l.place) (meanings_from n logs)
logs_in_order n [] = tt
logs_in_order n (log ∷ logs) =
    AreSortedBy-append (λ (l : MeaningAt). l.place) (meanings_in n 1 (lines_of log))
    (meanings_from (suc n) logs) (lines_in_order n 1 (lines_of log))
    (logs_in_order (suc n) logs)
    (λ x y hx hy. earlier_log x.place y.place
    (omega (
      arith,
      (meanings_in-place n 1 (lines_of log) x hx).0,
      meanings_from-place (suc n) logs y
          hy,
    )))

-- ---- the lines that have an instance

placed_there : (place : Place) (r : Result Line Why) (p : Placed) → Contains (placed_at place r) p
    → p.place ≡ place
placed_there place (Ok Blank) p h = absurd (Contains-nil p h)
placed_there place (Ok (Entry e)) p h =
    elim (Contains-cons_cases (record { place = place; instance = e }) [] p h) [
      | inl same ↦ ap (λ (l : Placed). l.place) (sym same)
      | inr none ↦ absurd (Contains-nil p none)
    ]
placed_there place (Err why) p h = absurd (Contains-nil p h)

placed_one : (place : Place) (r : Result Line Why)
    → AreSortedBy (λ (p : Placed). p.place) (placed_at place r)
placed_one place (Ok Blank) = tt
placed_one place (Ok (Entry e)) = ((λ y h. absurd (Contains-nil y h)), tt)
placed_one place (Err why) = tt

pub IsSortedByPlace-placed_of : (logs : List (List ℕ)) → IsSortedByPlace (placed_of logs)
IsSortedByPlace-placed_of logs =
    AreSortedBy-flat_map (λ (p : Placed). p.place) (λ l. placed_at l.place l.meaning)
    (λ l. placed_there l.place l.meaning) (λ l. placed_one l.place l.meaning)
    (meanings_of logs) (logs_in_order 0 logs)

-- no two of them have the same place
pub HaveDistinctPlaces-placed_of : (logs : List (List ℕ)) → HaveDistinctPlaces (placed_of logs)
HaveDistinctPlaces-placed_of logs =
    HaveDistinctPlaces-sorted (placed_of logs) (IsSortedByPlace-placed_of logs)

-- ---- the lines that have a fault

bad_line_there : (place : Place) (r : Result Line Why) (x : BadLineAt)
    → Contains (bad_lines_at place r) x → x.place ≡ place
bad_line_there place (Ok l) x h = absurd (Contains-nil x h)
bad_line_there place (Err why) x h =
    elim (Contains-cons_cases (record { place = place; why = why }) [] x h) [
      | inl same ↦ ap (λ (s : BadLineAt). s.place) (sym same)
      | inr none ↦ absurd (Contains-nil x none)
    ]

one_bad_line : (place : Place) (r : Result Line Why)
    → AreSortedBy (λ (x : BadLineAt). x.place) (bad_lines_at place r)
one_bad_line place (Ok l) = tt
one_bad_line place (Err why) = ((λ y h. absurd (Contains-nil y h)), tt)

-- the first of them is before all others
pub IsFirstBadLine-least : (logs : List (List ℕ)) (place : Place) (why : Why)
    → IsFirstBadLine (bad_lines_of logs) place why → (x : BadLineAt)
    → Contains (bad_lines_of logs) x → (place ≡ x.place) ⊎ Earlier place x.place
IsFirstBadLine-least logs place why f x h =
    let first : BadLineAt = record { place = place; why = why } in
    let all = AreSortedBy-flat_map (λ (s : BadLineAt). s.place)
    (λ l. bad_lines_at l.place l.meaning) (λ l. bad_line_there l.place l.meaning)
    (λ l. one_bad_line l.place l.meaning) (meanings_of logs) (logs_in_order 0 logs) in
    let order : AreSortedBy (λ (s : BadLineAt). s.place) (first ∷ f.0) =
    subst (AreSortedBy (λ (s : BadLineAt). s.place)) f.1 all in
    elim (Contains-cons_cases first f.0 x (subst (λ (l : List BadLineAt). Contains l x) f.1 h)) [
      | inl e ↦ inl (ap (λ (s : BadLineAt). s.place) e)
      | inr rest ↦ inr (order.0 x rest)
    ]
