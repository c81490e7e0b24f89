-- A map has one text of its uncovered neighbours, and it is `covered` if the map is.
use Rattle.std.proofs.Common.{◌≡◌, ℕ, List, [], ◌∷◌, Contains, get_or, refl, sym, ap, subst}
use Rattle.std.proofs.Common.{◌∙◌, arith}
use Rattle.json.specs.Print.{escape_byte}
use Rattle.epx_types.proofs.Common.{Instance, Ranked, IsExecutionOrder-unique, is_lt-irrefl}
use Rattle.epx_types.proofs.Common.{is_lt-trans, AllPairs-is_unique, Contains-nil, Contains-head}
use Rattle.epx_report.specs.ViewLines.{covered_line}
use Rattle.epx_neighbours.specs.UncoveredLines.{pairs_text}
use Rattle.epx_neighbours.specs.UncoveredNeighbours.{NeighbourPair, PairBelow, AreUncoveredPairs}
use Rattle.epx_neighbours.specs.UncoveredTextLaws.{UncoveredTextIsUnique, CoveredLineMeansCovered}
use Rattle.epx_neighbours.proofs.CoverLemmas.{IsCovered-without_pairs, IsCovered-not_if_pair}
use Rattle.epx_neighbours.proofs.RowOrderLemmas.{pair_cmp-IsTotalOrder}

same_pairs : (m : List Instance) (order : List Ranked) (pairs others : List NeighbourPair)
    → AreUncoveredPairs m order pairs → AreUncoveredPairs m order others → pairs ≡ others
same_pairs m order pairs others p q =
    AllPairs-is_unique PairBelow (is_lt-irrefl pair_cmp-IsTotalOrder)
    (is_lt-trans pair_cmp-IsTotalOrder) pairs others
    p.rising q.rising (λ n h. (q.exact n).1 ((p.exact n).0 h))
    (λ n h. (p.exact n).1 ((q.exact n).0 h))

pub UncoveredTextIsUnique-holds : UncoveredTextIsUnique
UncoveredTextIsUnique-holds m text other p q =
    let order = IsExecutionOrder-unique m q.order p.order q.executed p.executed in
    p.printed ∙ ap pairs_text (same_pairs m p.order p.pairs q.pairs p.listed
    (subst (λ o. AreUncoveredPairs m o q.pairs) order q.listed)) ∙ sym q.printed

-- the letters u and c
letters_differ : (m n : ℕ) → m ≡ 117 → n ≡ 99 → ¬ (m ≡ n)
letters_differ m n p q e = omega arith

-- only the text of no pair is the line `covered`
none_from_text : (pairs : List NeighbourPair) → pairs_text pairs ≡ covered_line → pairs ≡ []
unfolding escape_byte
none_from_text [] e = refl
none_from_text (n ∷ pairs) e =
    absurd (letters_differ (get_or (pairs_text (n ∷ pairs)) 2 0) (get_or covered_line 2 0) refl refl
    (ap (λ (text : List ℕ). get_or text 2 0) e))

none_from_cover : (pairs : List NeighbourPair) → ((n : NeighbourPair) → ¬ Contains pairs n)
    → pairs ≡ []
none_from_cover [] none = refl
none_from_cover (n ∷ pairs) none = absurd (none n (Contains-head n pairs))

pub CoveredLineMeansCovered-holds : CoveredLineMeansCovered
CoveredLineMeansCovered-holds m text rising is = (
  λ e.
      let none = none_from_text is.pairs (sym is.printed ∙ e) in
      IsCovered-without_pairs m is.order is.executed rising (λ n u.
      Contains-nil n (subst (λ ns. Contains ns n) none ((is.listed.exact n).1 u))),
  λ covered.
      let none = none_from_cover is.pairs (λ n h.
      IsCovered-not_if_pair m is.order is.executed rising n ((is.listed.exact n).0 h) covered) in
      is.printed ∙ ap pairs_text none,
)
