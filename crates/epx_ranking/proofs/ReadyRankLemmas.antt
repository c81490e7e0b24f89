-- The ranks of the ready instances of the first nodes.
use Rattle.std.proofs.Common.{◌≡◌, ◌≢◌, ℕ, ◌+◌, ◌<◌, List, [], ◌∷◌, ◌++◌, get_or, slice_get, Some}
use Rattle.std.proofs.Common.{Contains, AllPairs, sym, ap, ◌∙◌, subst, inl, inr, arith}
use Rattle.epx_types.proofs.Common.{cases_lt, Contains-append_left, Contains-get_or, Contains-push}
use Rattle.epx_types.proofs.Common.{Contains-push_cases, all_pairs_push, IsRanked, Instance}
use Rattle.epx_types.proofs.Common.{IsReady, Contains-nil}
use Rattle.epx_types.specs.declared.id.Id.{Id}
use Rattle.epx_graph.proofs.Common.{DependencyGraph, IsGraph, IsGraphOf, ids-is_unique}
use Rattle.epx_graph.proofs.Common.{slice_get-if_committed}
use Rattle.epx_components.specs.Ranks.{ranked}
use Rattle.epx_ranking.specs.inner.ReadyRanks.{AreReadyRanks}
use Rattle.epx_components.specs.declared.rank.Rank.{Rank}

-- the ranks of the ready instances among the first n nodes, each once
pub record AreGathered (m : List Instance) (g : DependencyGraph) (n : ℕ) (ranks : List Rank) : Type
    0 where
  pub is_rank : (r : Rank) → Contains ranks r → IsRanked m (ranked r)
  pub node : (r : Rank) → Contains ranks r → (k : ℕ) × (k < n) × (slice_get g.ids k ≡ Some r.id)
  pub whole : (k : ℕ) (x : Id) → k < n → slice_get g.ids k ≡ Some x → IsReady m x
      → (r : Rank) × Contains ranks r × (r.id ≡ x)
  pub once : AllPairs (λ a b. a.id ≢ b.id) ranks

module _ (m : List Instance) (g : DependencyGraph) where
  pub AreGathered-none : AreGathered m g 0 []
  AreGathered-none = record {
    is_rank = λ r h. absurd (Contains-nil r h);
    node = λ r h. absurd (Contains-nil r h);
    whole = λ k x l. absurd (omega arith);
    once = λ i j d l k. absurd (omega arith);
  }

  -- a node whose instance is not ready adds no rank
  pub AreGathered-skip : (n : ℕ) (ranks : List Rank)
      → ((x : Id) → slice_get g.ids n ≡ Some x → ¬ IsReady m x) → AreGathered m g n ranks
      → AreGathered m g (n + 1) ranks
  AreGathered-skip n ranks waits old = record {
    is_rank = old.is_rank;
    node = λ r h. let k = old.node r h in (k.0, omega (arith, k.1), k.2);
    whole = λ k x l at ready.
        elim (cases_lt k n) [
          | inl before ↦ old.whole k x before at ready
          | inr here ↦
              let same : k ≡ n = omega arith in
              absurd (waits x (ap (slice_get g.ids) (sym same) ∙ at) ready)
        ];
    once = old.once;
  }

  -- a node whose instance is ready adds its rank at the end
  pub AreGathered-push : IsGraph g → (n : ℕ) (ranks : List Rank) (r : Rank)
      → slice_get g.ids n ≡ Some r.id → IsRanked m (ranked r) → AreGathered m g n ranks
      → AreGathered m g (n + 1) (ranks ++ r ∷ [])
  AreGathered-push is n ranks r at ranks_r old = record {
    is_rank = λ a h.
        elim (Contains-push_cases ranks r a h) [
          | inl before ↦ old.is_rank a before
          | inr same ↦ subst (λ (b : Rank). IsRanked m (ranked b)) same ranks_r
        ];
    node = λ a h.
        elim (Contains-push_cases ranks r a h) [
          | inl before ↦ let k = old.node a before in (k.0, omega (arith, k.1), k.2)
          | inr same ↦ (n, omega arith, at ∙ ap (λ (b : Rank). Some b.id) same)
        ];
    whole = λ k x l to ready.
        elim (cases_lt k n) [
          | inl before ↦ let a = old.whole k x before to ready in
              (a.0, Contains-append_left ranks (r ∷ []) a.0 a.1, a.2)
          | inr here ↦
              let one_node : k ≡ n = omega arith in
              let same : Some r.id ≡ Some x = sym at ∙ ap (slice_get g.ids) (sym one_node) ∙ to in
              (r, Contains-push ranks r, cc same)
        ];
    once = all_pairs_push (λ a b. a.id ≢ b.id) ranks r old.once (λ i d l same.
        let k = old.node (get_or ranks i d) (Contains-get_or ranks i d l) in
        omega (arith, k.1, ids-is_unique g is k.0 n r.id (k.2 ∙ ap Some same) at));
  }

  -- the ranks of all committed nodes are those of all ready instances
  pub AreReadyRanks-all : IsGraphOf m g → (ranks : List Rank) → AreGathered m g g.committed ranks
      → AreReadyRanks m ranks
  AreReadyRanks-all is ranks all = record {
    is_rank = all.is_rank;
    whole = λ x ready. let k = slice_get-if_committed m g is x ready.committed in
        all.whole k.0 x k.1 k.2 ready;
    once = all.once;
  }
