-- A map in which each uncovered pair is related is covered.
use Rattle.std.proofs.Common.{◌≡◌, ◌≢◌, inl, inr, ℕ, List, [], ◌∷◌, Some, slice_get}
use Rattle.std.proofs.Common.{sym, subst, subst₂, ◌∙◌}
use Rattle.epx_types.specs.declared.id.Id.{Id}
use Rattle.epx_types.proofs.Common.{Instance, IsCommitted, IsPath, Reaches, IsReady}
use Rattle.epx_types.proofs.Common.{Reaches-trans, Conflict, Contains-map, Contains-from_map}
use Rattle.epx_types.proofs.Common.{ranked_ids, commands_in}
use Rattle.epx_neighbours.specs.Mending.{HasMoreDependencies}
use Rattle.epx_neighbours.specs.Neighbours.{AreNeighbours}
use Rattle.epx_neighbours.specs.UncoveredTextLaws.{MendedMapIsCovered}
use Rattle.epx_neighbours.proofs.CoverLemmas.{AreNeighbours-chain, IsUncoveredPair-or_reaches}

module _ (m n : List Instance) (more : HasMoreDependencies m n) where
  path_kept : (x : Id) (via : List Id) (y : Id) → IsPath m x via y → IsPath n x via y
  path_kept x [] y p = more.kept x y p
  path_kept x (z ∷ via) y p = (more.kept x z p.0, path_kept z via y p.1)

  reach_kept : (x y : Id) → Reaches m x y → Reaches n x y
  reach_kept x y (inl same) = inl same
  reach_kept x y (inr path) = inr (path.0, path_kept x path.0 y path.1)

  committed_before : (x : Id) → IsCommitted n x → IsCommitted m x
  committed_before x h =
      let e = Contains-from_map (λ (e : Instance). e.id) n x h in
      let d = more.same e.0 e.1 in
      subst (IsCommitted m) (d.2 ∙ e.2) (Contains-map (λ (e : Instance). e.id) m d.0 d.1)

  ready_before : (x : Id) → IsReady n x → IsReady m x
  ready_before x ready = record {
    committed = committed_before x ready.committed;
    complete = λ y reach. committed_before y (ready.complete y (reach_kept x y reach));
  }

pub MendedMapIsCovered-holds : MendedMapIsCovered
MendedMapIsCovered-holds m n order pairs rising orders listed more mended a b in_a in_b differ
    a_ready
    b_ready conflict =
    let d = more.same a in_a in
    let e = more.same b in_b in
    let apart : d.0.id ≢ e.0.id = λ same. differ (sym d.2 ∙ same ∙ e.2) in
    let one = AreNeighbours-chain m order orders rising (Reaches n) (Reaches-trans n) follow d.0 e.0
    d.1 e.1
    apart (ready_before m n more d.0.id (subst (IsReady n) (sym d.2) a_ready))
    (ready_before m n more e.0.id (subst (IsReady n) (sym e.2) b_ready))
    (subst₂ Conflict (sym d.3) (sym e.3) conflict) in
    elim one [
      | inl there ↦ inl (subst₂ (Reaches n) d.2 e.2 there)
      | inr back ↦ inr (subst₂ (Reaches n) e.2 d.2 back)
    ]
  where
    follow : (p q : ℕ) (x y : Id) (k : List ℕ) → slice_get (ranked_ids order) p ≡ Some x
        → slice_get (ranked_ids order) q ≡ Some y
        → AreNeighbours (commands_in m (ranked_ids order)) p q k → Reaches n y x
    follow p q x y k at_p at_q are =
        elim (IsUncoveredPair-or_reaches m order orders p q x y k at_p at_q are) [
          | inl uncovered ↦ inr ([], mended _ ((listed.exact _).1 uncovered))
          | inr back ↦ reach_kept m n more y x back
        ]
