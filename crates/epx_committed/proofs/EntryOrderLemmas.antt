-- The lines of entries in memory are sorted by place.
use Rattle.std.proofs.Common.{◌≡◌, inl, inr, ℕ, suc, ◌≤◌, List, [], ◌∷◌, Contains, sym, ap, arith}
use Rattle.epx_types.proofs.Common.{Instance, Placed, Contains-nil, Contains-cons_cases}
use Rattle.epx_committed.specs.between.EntryLines.{entry_lines, entry_lines_from}
use Rattle.epx_committed.specs.between.LineOrder.{IsSortedByPlace}
use Rattle.epx_committed.proofs.LineOrderLemmas.{Earlier-same_log}

from_line : (n : ℕ) (es : List Instance) (p : Placed) → Contains (entry_lines_from n es) p
    → (p.place.log ≡ 0) × (n ≤ p.place.line)
from_line n [] p h = absurd (Contains-nil p h)
from_line n (e ∷ es) p h =
    elim (Contains-cons_cases (record { place = record { log = 0; line = n }; instance = e })
    (entry_lines_from (suc n) es) p h) [
      | inl same ↦ (
        ap (λ (l : Placed). l.place.log) (sym same),
        omega (arith, ap (λ (l : Placed). l.place.line) same),
      )
      | inr rest ↦ let r = from_line (suc n) es p rest in (r.0, omega (arith, r.1))
    ]

in_order_from : (n : ℕ) (es : List Instance) → IsSortedByPlace (entry_lines_from n es)
in_order_from n [] = tt
in_order_from n (e ∷ es) = (
  (λ p h. let later = from_line (suc n) es p h in
      Earlier-same_log (record { log = 0; line = n }) p.place (sym later.0)
      (omega (arith, later.1))),
  in_order_from (suc n) es,
)

pub IsSortedByPlace-entry_lines : (es : List Instance) → IsSortedByPlace (entry_lines es)
IsSortedByPlace-entry_lines es = in_order_from 1 es
