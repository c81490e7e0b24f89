-- An edge that is looked at, from a node of the last group.
use Rattle.std.proofs.Common.{◌≡◌, ◌≢◌, ℕ, ◌+◌, ◌<◌, ◌≤◌, List, [], ◌∷◌, ◌++◌, length, get_or, set}
use Rattle.std.proofs.Common.{refl, sym, subst, ◌∙◌, ap, arith, length-take, zero, suc, Result, Ok}
use Rattle.std.proofs.Common.{Err, IfOk, OnOk}
use Rattle.epx_types.proofs.Common.{get_or-set_same, get_or-set_other, get_or-take, length_push}
use Rattle.epx_types.proofs.Common.{Contains-get_or}
use Rattle.epx_graph.proofs.Common.{NodeReaches}
use Rattle.epx_components.proofs.LookLemmas.{IsSearch-look}
use Rattle.epx_components.proofs.GroupMergeLemmas.{IsSearch-cut}
use Rattle.epx_components.proofs.NodePathLemmas.{NodeReaches-edge, NodeReaches-trans}
use Rattle.epx_components.proofs.OpenLemmas.{IsSearch-enter}
use Rattle.epx_components.proofs.StartLemmas.{get_or-push_cases}
use Rattle.epx_components.specs.inner.SearchInvariants.{IsSearch}
use Rattle.epx_components.specs.inner.SearchStates.{SearchState, visit_of}
use Rattle.epx_components.specs.inner.SearchSteps.{Arrives, IsInTopGroup, IsNextNode}
use Rattle.epx_components.specs.inner.SearchSteps.{after_enter, looked}
use Rattle.epx_components.specs.inner.SearchWork.{edges_left, work_left}
use Rattle.epx_components.specs.inner.Starts.{IsInGroupFrom, IsInLastGroup}
use Rattle.epx_components.specs.declared.visit.Visit.{Visit}
use Rattle.epx_components.specs.declared.visit.Visit.TheVariants.{Closed, Open, Unseen}

abbrev next_of : (ℕ → List ℕ) → SearchState → ℕ → ℕ
next_of edges s k = get_or (edges k) (get_or s.looked_at k 0) 0

groups_reach : (edges : ℕ → List ℕ) (n seen : ℕ) (s : SearchState) (k : ℕ)
    → IsSearch edges n seen s → IsNextNode edges s k → (j p : ℕ) → visit_of s.visits j ≡ Open p
    → NodeReaches edges j (next_of edges s k)
groups_reach edges n seen s k w next j p h =
    NodeReaches-trans edges j k _
    (w.reaches j k p next.position h next.is_open (λ i l _. next.is_last i l))
    (NodeReaches-edge edges k _ (Contains-get_or (edges k) _ 0 next.left))

follow_at : (edges : ℕ → List ℕ) (n seen : ℕ) (s new : SearchState) (k : ℕ) (x : Visit)
    → visit_of s.visits (next_of edges s k) ≡ x → IsSearch edges n seen s → IsNextNode edges s k
    → next_of edges s k < n → Arrives x (next_of edges s k) (looked s k) new
    → IsSearch edges n seen new
follow_at edges n seen s new k Unseen e w next l h =
    let to = next_of edges s k in
    let m = length s.opened in
    let in' : to < length s.visits = omega (arith, w.all_visits) in
    let open' : visit_of (set s.visits to (Open m)) k ≡ Open next.position =
    get_or-set_other s.visits to k _ Unseen (λ f. let wrong : Open next.position ≡ Unseen =
    sym next.is_open ∙ (ap (visit_of s.visits) f ∙ e) in cc) ∙ next.is_open in
    let at : visit_of (set s.visits to (Open m)) to ≡ Open m =
    get_or-set_same s.visits to (Open m) Unseen in' in
    let from : IsInGroupFrom (s.starts ++ m ∷ []) next.position m =
    get_or-push_cases s.starts m (λ _ b. b ≤ next.position → b ≤ m)
    (λ i in'' _. omega (arith, w.starts.below i in'')) (λ _. omega arith) in
    let P : SearchState → Type 0 = λ t. IsSearch edges n seen t in
    subst P (sym h) (IsSearch-look edges n seen (after_enter s to) k next.position
    (IsSearch-enter edges n seen s to w l e (groups_reach edges n seen s k w next)) open' next.left
    (rw (open', at) from))
follow_at edges n seen s new k (Open t) e w next l h =
    let cut = h.0 in
    let from : IsInGroupFrom new.starts next.position t = rw cut.same (λ i l _.
    let in' : i < cut.kept = omega (arith, length-take cut.kept s.starts) in
    rw (get_or-take cut.kept s.starts i 0 in') (cut.below i in')) in
    let P : SearchState → Type 0 = λ u. IsSearch edges n seen u in
    subst P (sym h.1) (IsSearch-look edges n seen (record s { starts = new.starts }) k next.position
    (IsSearch-cut edges n seen s new.starts (next_of edges s k) t w e
    (groups_reach edges n seen s k w next) cut) next.is_open next.left
    (rw (next.is_open, e) from))
follow_at edges n seen s new k (Closed c) e w next l h =
    let P : SearchState → Type 0 = λ t. IsSearch edges n seen t in
    subst P (sym h) (IsSearch-look edges n seen s k next.position w next.is_open next.left
    (rw (next.is_open, e) tt))

pub IsSearch-follow : (edges : ℕ → List ℕ) (n seen : ℕ) (s new : SearchState) (k : ℕ)
    → IsSearch edges n seen s → IsNextNode edges s k → next_of edges s k < n
    → Arrives (visit_of s.visits (next_of edges s k)) (next_of edges s k) (looked s k) new
    → IsSearch edges n seen new
IsSearch-follow edges n seen s new k w next l h = follow_at edges n seen s new k _ refl w next l h

-- after an edge that opens no node, the node is still in the last group
pub IsInTopGroup-stays : (x : Visit) (k j p : ℕ) (s new : SearchState) → x ≢ Unseen
    → visit_of s.visits k ≡ Open p → IsInLastGroup s.starts p → Arrives x j s new
    → IsInTopGroup new k
IsInTopGroup-stays Unseen k j p s new seen is last h = absurd (seen refl)
IsInTopGroup-stays (Open t) k j p s new seen is last h = (
  p,
  ap (λ u. visit_of u.visits k) h.1 ∙ is,
  rw h.0.same (λ i l. rw (get_or-take h.0.kept s.starts i 0
      (omega (arith, length-take h.0.kept s.starts)))
      (last i (omega (arith, length-take h.0.kept s.starts)))),
)
IsInTopGroup-stays (Closed c) k j p s new seen is last h =
    (p, ap (λ u. visit_of u.visits k) h ∙ is, rw (ap (λ u. u.starts) h) last)

-- what holds of a result where two things do
pub IfOk-and : {T E P : Type 0} (Q R : T → Type 0) (r : Result T E) → (P → (x : T) → Q x → R x)
    → OnOk r P → IfOk r Q → IfOk r R
IfOk-and Q R (Ok x) f p q = f p x q
IfOk-and Q R (Err e) f p q = tt

edges_left-set : (rows : List (List ℕ)) (looked_at : List ℕ) (k : ℕ) → k < length looked_at
    → get_or looked_at k 0 < length (get_or rows k [])
    → edges_left rows (set looked_at k (get_or looked_at k 0 + 1)) + 1 ≡ edges_left rows looked_at
edges_left-set [] [] k l h = absurd (omega arith)
edges_left-set [] (n ∷ looked_at) k l h = absurd (omega arith)
edges_left-set (row ∷ rows) [] k l h = absurd (omega arith)
edges_left-set (row ∷ rows) (n ∷ looked_at) zero l h = omega arith
edges_left-set (row ∷ rows) (n ∷ looked_at) (suc k) l h =
    omega (arith, edges_left-set rows looked_at k (omega arith) h)

-- an edge leads to at most one new node, which is added to the path and to the starts
arrive_less : (x : Visit) (k : ℕ) (s new : SearchState) → Arrives x k s new
    → (new.looked_at ≡ s.looked_at)
    × (length new.path + length new.starts ≤ length s.path + length s.starts + 2)
arrive_less Unseen k s new h = (
  ap (λ t. t.looked_at) h,
  omega (
    arith,
    ap (λ t. length t.path) h,
    ap (λ t. length t.starts) h,
    length_push s.path (length s.opened),
    length_push s.starts (length s.opened),
  ),
)
arrive_less (Open t) k s new h = (
  ap (λ t. t.looked_at) h.1,
  omega (arith, ap (λ t. length t.path) h.1, ap length h.0.same, length-take h.0.kept s.starts),
)
arrive_less (Closed c) k s new h = (
  ap (λ t. t.looked_at) h,
  omega (arith, ap (λ t. length t.path) h, ap (λ t. length t.starts) h),
)

pub work_left-follow : (rows : List (List ℕ)) (s new : SearchState) (k j : ℕ)
    → k < length s.looked_at
    → get_or s.looked_at k 0 < length (get_or rows k [])
    → Arrives (visit_of s.visits j) j (looked s k) new → work_left rows new < work_left rows s
work_left-follow rows s new k j l left h =
    let less = arrive_less (visit_of s.visits j) j (looked s k) new h in
    rw less.0 (omega (arith, edges_left-set rows s.looked_at k l left, less.1))
