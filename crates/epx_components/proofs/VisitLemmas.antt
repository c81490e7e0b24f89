-- States of nodes: after a write, and where edges lead after the groups change.
use Rattle.std.proofs.Common.{◌≡◌, ◌≢◌, ℕ, ◌<◌, ◌≤◌, ◌⊎◌, inl, inr, ⊎_elim, List, [], ◌∷◌, ◌++◌}
use Rattle.std.proofs.Common.{length, set, take, refl, ◌∙◌, ap}
use Rattle.epx_types.proofs.Common.{get_or-set_same, get_or-set_other, get_or_past, cases_eq}
use Rattle.epx_types.proofs.Common.{cases_lt}
use Rattle.epx_components.proofs.StartLemmas.{IsInGroupFrom-push, IsInGroupFrom-take}
use Rattle.epx_components.specs.inner.SearchInvariants.{MayLead}
use Rattle.epx_components.specs.inner.Starts.{IsInGroupFrom}
use Rattle.epx_components.specs.inner.SearchStates.{visit_of}
use Rattle.epx_components.specs.declared.visit.Visit.{Visit}
use Rattle.epx_components.specs.declared.visit.Visit.TheVariants.{Closed, Open, Unseen}

-- the state of a node after a write
pub visit_of-set_cases : (ps : List Visit) (k : ℕ) (x : Visit) (j : ℕ) → k < length ps
    → ((j ≡ k) × (visit_of (set ps k x) j ≡ x))
    ⊎ ((j ≢ k) × (visit_of (set ps k x) j ≡ visit_of ps j))
visit_of-set_cases ps k x j l =
    ⊎_elim
    (λ (e : j ≡ k). inl (e, ap (visit_of (set ps k x)) e ∙ get_or-set_same ps k x Unseen l))
    (λ (ne : j ≢ k). inr (ne, get_or-set_other ps k j x Unseen ne))
    (cases_eq j k)

-- a node that is not unseen is in the list
pub visit_of-within : (ps : List Visit) (k : ℕ) → visit_of ps k ≢ Unseen → k < length ps
visit_of-within ps k h = ⊎_elim (λ (l : k < length ps). l)
    (λ (l : length ps ≤ k). absurd (h (get_or_past ps k Unseen l))) (cases_lt k (length ps))

pub MayLead-from : (starts : List ℕ) (x y : Visit) → MayLead starts x y → x ≢ Unseen
MayLead-from starts Unseen y h = absurd h
MayLead-from starts (Open p) y h = λ e. (cc)
MayLead-from starts (Closed c) y h = λ e. (cc)

pub MayLead-to : (starts : List ℕ) (x y : Visit) → MayLead starts x y → y ≢ Unseen
MayLead-to starts x (Open q) h = λ e. (cc)
MayLead-to starts x (Closed d) h = λ e. (cc)
MayLead-to starts Unseen Unseen h = absurd h
MayLead-to starts (Open p) Unseen h = absurd h
MayLead-to starts (Closed c) Unseen h = absurd h

-- an edge stays good if the new starts keep each position in the groups from its own on
MayLead-later : (old new : List ℕ) (x y : Visit)
    → ((p q : ℕ) → x ≡ Open p → IsInGroupFrom old p q → IsInGroupFrom new p q) → MayLead old x y
    → MayLead new x y
MayLead-later old new Unseen y on h = absurd h
MayLead-later old new (Open p) Unseen on h = absurd h
MayLead-later old new (Open p) (Open q) on h = on p q refl h
MayLead-later old new (Open p) (Closed d) on h = tt
MayLead-later old new (Closed c) Unseen on h = absurd h
MayLead-later old new (Closed c) (Open q) on h = absurd h
MayLead-later old new (Closed c) (Closed d) on h = h

pub MayLead-push : (starts : List ℕ) (m : ℕ) (x y : Visit) → ((p : ℕ) → x ≡ Open p → p < m)
    → MayLead starts x y → MayLead (starts ++ m ∷ []) x y
MayLead-push starts m x y below h =
    MayLead-later starts (starts ++ m ∷ []) x y
    (λ p q e. IsInGroupFrom-push starts m p q (below p e)) h

pub MayLead-take : (starts : List ℕ) (n : ℕ) (x y : Visit) → MayLead starts x y
    → MayLead (take n starts) x y
MayLead-take starts n x y h = MayLead-later starts (take n starts) x y
    (λ p q _. IsInGroupFrom-take starts n p q) h
