-- Paths from node to node, and what follows from them about components.
use Rattle.std.proofs.Common.{◌≡◌, ℕ, ◌<◌, ◌≤◌, List, [], ◌∷◌, ◌++◌, get_or, refl, sym, subst, ap}
use Rattle.std.proofs.Common.{arith, Contains}
use Rattle.epx_graph.proofs.Common.{IsNodePath, NodeReaches}
use Rattle.epx_components.specs.between.Partitions.{EdgesFall}

IsNodePath-append : (edges : ℕ → List ℕ) (k c j : ℕ) (cs ds : List ℕ) → IsNodePath edges k cs c
    → IsNodePath edges c ds j → IsNodePath edges k (cs ++ ds) j
IsNodePath-append edges k c j [] ds p q = let P : ℕ → Type 0 = λ x. IsNodePath edges x ds j in
    subst P (sym p) q
IsNodePath-append edges k c j (b ∷ cs) ds p q = (p.0, IsNodePath-append edges b c j cs ds p.1 q)

pub NodeReaches-itself : (edges : ℕ → List ℕ) (k j : ℕ) → k ≡ j → NodeReaches edges k j
NodeReaches-itself edges k j h = ([], h)

pub NodeReaches-edge : (edges : ℕ → List ℕ) (k j : ℕ) → Contains (edges k) j → NodeReaches edges k j
NodeReaches-edge edges k j h = (j ∷ [], (h, refl))

pub NodeReaches-trans : (edges : ℕ → List ℕ) (k c j : ℕ) → NodeReaches edges k c
    → NodeReaches edges c j
    → NodeReaches edges k j
NodeReaches-trans edges k c j p q = (p.0 ++ q.0, IsNodePath-append edges k c j p.0 q.0 p.1 q.1)

path_falls : (edges : ℕ → List ℕ) (component : List ℕ) → EdgesFall edges component
    → (k j : ℕ) (cs : List ℕ) → IsNodePath edges k cs j
    → get_or component j 0 ≤ get_or component k 0
path_falls edges component f k j [] p = omega (arith, ap (λ x. get_or component x 0) p)
path_falls edges component f k j (c ∷ cs) p =
    omega (arith, f k c p.0, path_falls edges component f c j cs p.1)

pub NodeReaches-falls : (edges : ℕ → List ℕ) (component : List ℕ) → EdgesFall edges component
    → (k j : ℕ)
    → NodeReaches edges k j → get_or component j 0 ≤ get_or component k 0
NodeReaches-falls edges component f k j r = path_falls edges component f k j r.0 r.1

path_below : (edges : ℕ → List ℕ) (n : ℕ) → ((k j : ℕ) → Contains (edges k) j → j < n)
    → (k j : ℕ) (cs : List ℕ) → k < n → IsNodePath edges k cs j → j < n
path_below edges n to k j [] l p = omega arith
path_below edges n to k j (c ∷ cs) l p = path_below edges n to c j cs (to k c p.0) p.1

pub NodeReaches-within : (edges : ℕ → List ℕ) (n : ℕ) → ((k j : ℕ) → Contains (edges k) j → j < n)
    → (k j : ℕ) → k < n → NodeReaches edges k j → j < n
NodeReaches-within edges n to k j l r = path_below edges n to k j r.0 l r.1
