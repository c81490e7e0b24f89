-- Lists of fresh seats, from which the last one is taken, or to which one is added.
use Rattle.std.proofs.Common.{◌≡◌, ◌+◌, List, [], ◌∷◌, ◌++◌, subst, sym, ap, arith}
use Rattle.epx_types.proofs.Common.{All-cons, All-head, All-tail, All-push}
use Rattle.epx_claims.specs.between.Seated.{ClaimsView, SeatView}
use Rattle.epx_claims.specs.inner.WorkResult.{AreFresh, IsFresh, shares}
use Rattle.epx_claims.proofs.CountLemmas.{total-append}

module _ (claims : ClaimsView) where
  abbrev fresh : SeatView → Type 0
  fresh s = IsFresh claims s.share s

  all_but_last : (rest : List SeatView) (other : SeatView) → AreFresh claims (rest ++ other ∷ [])
      → IsFresh claims other.share other × AreFresh claims rest
  all_but_last [] other all = (All-head fresh other [] all, All-tail fresh other [] all)
  all_but_last (s ∷ rest) other all =
      let others = rest ++ other ∷ [] in
      let tail = all_but_last rest other (All-tail fresh s others all) in
      (tail.0, All-cons fresh s rest (All-head fresh s others all) tail.1)

  -- the last of the other seats is taken
  pub IsFresh-last : (seat other : SeatView) (rest others : List SeatView)
      → others ≡ rest ++ other ∷ [] → AreFresh claims (seat ∷ others)
      → IsFresh claims other.share other × AreFresh claims (seat ∷ rest)
  IsFresh-last seat other rest others is all =
      all_but_last (seat ∷ rest) other (subst (λ l. AreFresh claims (seat ∷ l)) is all)

  -- a seat is split off, with others
  pub AreFresh-push : (seat other : SeatView) (first rest others : List SeatView)
      → AreFresh claims (seat ∷ first) → AreFresh claims (other ∷ rest)
      → others ≡ rest ++ other ∷ [] → AreFresh claims (seat ∷ others)
  AreFresh-push seat other first rest others one two is =
      subst (λ l. AreFresh claims (seat ∷ l)) (sym is)
      (All-cons fresh seat (rest ++ other ∷ []) (All-head fresh seat first one)
      (All-push fresh rest other (All-tail fresh other rest two)
      (All-head fresh other rest two)))

  pub AreFresh-others : (seat : SeatView) (others : List SeatView)
      → AreFresh claims (seat ∷ others) → AreFresh claims others
  AreFresh-others seat others all = All-tail fresh seat others all

-- the seats count for as many workers, with the last of the others or without it
pub shares-last : (other : SeatView) (rest others : List SeatView) → others ≡ rest ++ other ∷ []
    → shares others ≡ shares rest + other.share
shares-last other rest others is =
    let whole = ap shares is in
    let parts = total-append (λ (s : SeatView). s.share) rest (other ∷ []) in
    omega (arith, whole, parts)
