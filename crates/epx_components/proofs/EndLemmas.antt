-- When every node is seen and none is open, the finished components are those of the graph.
use Rattle.std.proofs.Common.{◌≡◌, ℕ, ◌<◌, ◌≤◌, List, length, get_or, refl, sym, ◌∙◌, ap, arith}
use Rattle.std.proofs.Common.{Contains}
use Rattle.epx_types.proofs.Common.{get_or_default, All-from_get_or}
use Rattle.epx_components.proofs.VisitLemmas.{visit_of-within}
use Rattle.epx_components.specs.between.Partitions.{IsPartition}
use Rattle.epx_components.specs.inner.SearchInvariants.{IsSearch, MayLead}
use Rattle.epx_components.specs.inner.SearchStates.{SearchState, visit_of}
use Rattle.epx_components.specs.declared.visit.Visit.{Visit}
use Rattle.epx_components.specs.declared.visit.Visit.TheVariants.{Closed, Open, Unseen}

closed_at : (edges : ℕ → List ℕ) (n k : ℕ) (s : SearchState) (x : Visit) → visit_of s.visits k ≡ x
    → IsSearch edges n n s → length s.starts ≡ 0 → k < n
    → (c : ℕ) × (visit_of s.visits k ≡ Closed c)
closed_at edges n k s Unseen e w none l = absurd (w.seen_below k l e)
closed_at edges n k s (Open p) e w none l =
    absurd (omega (arith, (w.row.placed k p e).0, w.grouped))
closed_at edges n k s (Closed c) e w none l = (c, e)

pub visit_of-all_closed : (edges : ℕ → List ℕ) (n : ℕ) (s : SearchState) → IsSearch edges n n s
    → length s.starts ≡ 0 → (k : ℕ) → k < n → (c : ℕ) × (visit_of s.visits k ≡ Closed c)
visit_of-all_closed edges n s w none k l = closed_at edges n k s _ refl w none l

-- a closed node is below n
closed_below : (edges : ℕ → List ℕ) (n seen : ℕ) (s : SearchState) (k c : ℕ)
    → IsSearch edges n seen s → visit_of s.visits k ≡ Closed c → k < n
closed_below edges n seen s k c w h =
    omega (
      arith,
      w.all_visits,
      visit_of-within s.visits k
          (λ e. let wrong : Closed c ≡ Unseen = sym h ∙ e in cc),
    )

MayLead-closed : (starts : List ℕ) (c : ℕ) (y : Visit) → MayLead starts (Closed c) y
    → (d : ℕ) × (y ≡ Closed d) × (d ≤ c)
MayLead-closed starts c Unseen h = absurd h
MayLead-closed starts c (Open q) h = absurd h
MayLead-closed starts c (Closed d) h = (d, refl, h)

pub IsPartition-at_end : (edges : ℕ → List ℕ) (n : ℕ) (s : SearchState) (component : List ℕ)
    → ((k j : ℕ) → Contains (edges k) j → k < n) → ((k j : ℕ) → Contains (edges k) j → j < n)
    → IsSearch edges n n s → length component ≡ n
    → ((k : ℕ) → k < n → visit_of s.visits k ≡ Closed (get_or component k 0))
    → IsPartition edges (record { component = component; order = s.order; count = s.count })
IsPartition-at_end edges n s component from to w len is =
    let number : (k c : ℕ) → visit_of s.visits k ≡ Closed c → get_or component k 0 ≡ c = λ k c h.
    let same : Closed (get_or component k 0) ≡ Closed c =
    sym (is k (closed_below edges n n s k c w h)) ∙ h in cc in
    let below : (i : ℕ) → i < length s.order → get_or s.order i 0 < n =
    λ i l. closed_below edges n n s _ _ w (w.finished.closed i l).1 in
    record {
      within = λ k j h. omega (arith, to k j h);
      falls = λ k j h.
          let here = is k (from k j h) in
          let at : get_or (edges k) h.0 0 ≡ j = get_or_default (edges k) h.0 0 j h.1 ∙ h.2 in
          let led : MayLead s.starts (visit_of s.visits k) (visit_of s.visits j) =
          rw at at (w.leads k h.0 (omega (arith, h.1, w.finished.looked k _ here))) in
          let to = MayLead-closed s.starts (get_or component k 0) (visit_of s.visits j)
          (rw here at led) in
          omega (arith, number j to.0 to.1, to.2);
      joined = λ k j lk lj e. w.finished.joined k j _ (is k (omega arith))
          (is j (omega arith) ∙ ap Closed (sym e));
      counted = All-from_get_or (λ c. c < s.count) component 0
          (λ k l. w.finished.counted k _ (is k (omega arith)));
      each = λ c l.
          let e = w.finished.each c l in
          let low : e.0 < length component =
          omega (arith, closed_below edges n n s e.0 c w e.1) in
          (e.0, low, get_or_default component e.0 c 0 low ∙ number e.0 c e.1);
      listed = λ k l. w.finished.listed k _ (is k (omega arith));
      nodes = All-from_get_or (λ k. k < length component) s.order 0
          (λ i l. omega (arith, below i l));
      once = w.finished.once;
      sorted = λ i j le l. w.finished.sorted i j _ _ le l (is _ (below i (omega arith)))
          (is _ (below j l));
    }
