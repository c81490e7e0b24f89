-- Closing the open nodes from a position on: the state of a node before and after.
use Rattle.std.proofs.Common.{◌≡◌, ◌≢◌, ℕ, ◌+◌, ◌-◌, ◌<◌, ◌≤◌, ◌⊎◌, inl, inr, ⊎_elim, List, length}
use Rattle.std.proofs.Common.{get_or, take, drop, refl, sym, ◌∙◌, ap, arith}
use Rattle.epx_types.proofs.Common.{get_or-drop, length-drop, cases_lt}
use Rattle.epx_components.proofs.StartLemmas.{IsInGroupFrom-take}
use Rattle.epx_components.specs.inner.SearchInvariants.{IsRow, MayLead}
use Rattle.epx_components.specs.inner.SearchStates.{visit_of}
use Rattle.epx_components.specs.inner.SearchSteps.{Closes}
use Rattle.epx_components.specs.declared.visit.Visit.{Visit}
use Rattle.epx_components.specs.declared.visit.Visit.TheVariants.{Closed, Open, Unseen}

-- `Closes` by the three states of a node before
Closes-by : (s c : ℕ) (x y : Visit) → (x ≡ Unseen → y ≡ Unseen)
    → ((p : ℕ) → x ≡ Open p → ((p < s) × (y ≡ Open p)) ⊎ ((s ≤ p) × (y ≡ Closed c)))
    → ((d : ℕ) → x ≡ Closed d → y ≡ Closed d) → Closes s c x y
Closes-by s c Unseen y un open' closed = un refl
Closes-by s c (Open p) y un open' closed = open' p refl
Closes-by s c (Closed d) y un open' closed = closed d refl

-- the nodes of a group are closed, and no others
pub Closes-group : (visits new : List Visit) (opened : List ℕ) (s c : ℕ) → IsRow visits opened
    → ((i : ℕ) → i < length (drop s opened) → visit_of new (get_or (drop s opened) i 0) ≡ Closed c)
    → ((k : ℕ) → ((i : ℕ) → i < length (drop s opened) → get_or (drop s opened) i 0 ≢ k)
    → visit_of new k ≡ visit_of visits k) → (k : ℕ)
    → Closes s c (visit_of visits k) (visit_of new k)
Closes-group visits new opened s c r closed others k =
    let is_open_at : (i : ℕ) → i < length (drop s opened)
    → visit_of visits (get_or (drop s opened) i 0) ≡ Open (s + i) = λ i l.
    rw (get_or-drop s opened i 0) (r.is_open_at (s + i) (omega (arith, length-drop s opened))) in
    let kept : ((q : ℕ) → s ≤ q → visit_of visits k ≢ Open q)
    → visit_of new k ≡ visit_of visits k = λ ne.
    others k (λ i l e. ne (s + i) (omega arith) (ap (visit_of visits) (sym e) ∙ is_open_at i l)) in
    Closes-by s c _ _
    (λ e. kept (λ q _ f. let wrong : Unseen ≡ Open q = sym e ∙ f in cc) ∙ e)
    (λ p e. ⊎_elim
    (λ (l : p < s). inl (
      l,
      kept (λ q h f. let wrong : Open p ≡ Open q = sym e ∙ f in let same : p ≡ q = cc in
          absurd (omega arith)) ∙ e,
    ))
    (λ (l : s ≤ p).
    let here = r.placed k p e in
    let at : get_or (drop s opened) (p - s) 0 ≡ k =
    get_or-drop s opened (p - s) 0 ∙ (ap (λ x. get_or opened x 0) (omega arith) ∙ here.1) in
    inr (
      l,
      ap (visit_of new) (sym at) ∙ closed (p - s)
          (omega (arith, here.0, length-drop s opened)),
    ))
    (cases_lt p s))
    (λ d e. kept (λ q _ f. let wrong : Closed d ≡ Open q = sym e ∙ f in cc) ∙ e)

-- the state of a node before
pub Closes-was_unseen : (s c : ℕ) (x y : Visit) → Closes s c x y → y ≡ Unseen → x ≡ Unseen
Closes-was_unseen s c Unseen y h e = refl
Closes-was_unseen s c (Open p) y h e =
    ⊎_elim (λ (f : (p < s) × (y ≡ Open p)). let wrong : Open p ≡ Unseen = sym f.1 ∙ e in cc)
    (λ (f : (s ≤ p) × (y ≡ Closed c)). let wrong : Closed c ≡ Unseen = sym f.1 ∙ e in cc) h
Closes-was_unseen s c (Closed d) y h e = sym h ∙ e

pub Closes-was_open : (s c : ℕ) (x y : Visit) (p : ℕ) → Closes s c x y → y ≡ Open p
    → (x ≡ Open p) × (p < s)
Closes-was_open s c Unseen y p h e = let wrong : Unseen ≡ Open p = sym h ∙ e in absurd (cc)
Closes-was_open s c (Open q) y p h e = ⊎_elim
    (λ (f : (q < s) × (y ≡ Open q)). let same : Open q ≡ Open p = sym f.1 ∙ e in
    let at : q ≡ p = cc in (same, omega arith))
    (λ (f : (s ≤ q) × (y ≡ Closed c)). let wrong : Closed c ≡ Open p = sym f.1 ∙ e in absurd (cc))
    h
Closes-was_open s c (Closed d) y p h e = let wrong : Closed d ≡ Open p = sym h ∙ e in absurd (cc)

abbrev pub WasOpen : ℕ → ℕ → Visit → ℕ → Type 0
WasOpen s c x d = (p : ℕ) × (x ≡ Open p) × (s ≤ p) × (d ≡ c)

pub Closes-was_closed : (s c : ℕ) (x y : Visit) (d : ℕ) → Closes s c x y → y ≡ Closed d
    → (x ≡ Closed d) ⊎ WasOpen s c x d
Closes-was_closed s c Unseen y d h e = let wrong : Unseen ≡ Closed d = sym h ∙ e in absurd (cc)
Closes-was_closed s c (Open q) y d h e = ⊎_elim
    (λ (f : (q < s) × (y ≡ Open q)). let wrong : Open q ≡ Closed d = sym f.1 ∙ e in absurd (cc))
    (λ (f : (s ≤ q) × (y ≡ Closed c)). let same : Closed c ≡ Closed d = sym f.1 ∙ e in
    let at : c ≡ d = cc in inr (q, refl, f.0, sym at))
    h
Closes-was_closed s c (Closed b) y d h e = inl (sym h ∙ e)

-- the state of a node after
pub Closes-stays_open : (s c : ℕ) (x y : Visit) (p : ℕ) → Closes s c x y → x ≡ Open p → p < s
    → y ≡ Open p
Closes-stays_open s c x y p h e l = let f = rw e at h in
    ⊎_elim (λ (g : (p < s) × (y ≡ Open p)). g.1)
    (λ (g : (s ≤ p) × (y ≡ Closed c)). absurd (omega arith)) f

pub Closes-is_closed : (s c : ℕ) (x y : Visit) (p : ℕ) → Closes s c x y → x ≡ Open p → s ≤ p
    → y ≡ Closed c
Closes-is_closed s c x y p h e l = let f = rw e at h in
    ⊎_elim (λ (g : (p < s) × (y ≡ Open p)). absurd (omega arith))
    (λ (g : (s ≤ p) × (y ≡ Closed c)). g.1) f

pub Closes-stays_closed : (s c : ℕ) (x y : Visit) (d : ℕ) → Closes s c x y → x ≡ Closed d
    → y ≡ Closed d
Closes-stays_closed s c x y d h e = rw e at h

-- an edge after the last group is closed: n is the last group, which starts at s
pub MayLead-close : (starts : List ℕ) (n s c : ℕ) (x y x' y' : Visit) → n < length starts
    → get_or starts n 0 ≡ s → ((d : ℕ) → y ≡ Closed d → d < c) → Closes s c x x' → Closes s c y y'
    → MayLead starts x y → MayLead (take n starts) x' y'
MayLead-close starts n s c Unseen y x' y' l e b hx hy h = absurd h
MayLead-close starts n s c (Open p) Unseen x' y' l e b hx hy h = absurd h
MayLead-close starts n s c (Open p) (Open q) x' y' l e b hx hy h = ⊎_elim
    (λ (f : (p < s) × (x' ≡ Open p)). ⊎_elim
    (λ (g : (q < s) × (y' ≡ Open q)). rw (f.1, g.1) (IsInGroupFrom-take starts n p q h))
    (λ (g : (s ≤ q) × (y' ≡ Closed c)). rw (f.1, g.1) tt)
    hy)
    (λ (f : (s ≤ p) × (x' ≡ Closed c)). ⊎_elim
    (λ (g : (q < s) × (y' ≡ Open q)). absurd (omega (arith, h n l)))
    (λ (g : (s ≤ q) × (y' ≡ Closed c)). rw (f.1, g.1) (omega arith))
    hy)
    hx
MayLead-close starts n s c (Open p) (Closed d) x' y' l e b hx hy h = ⊎_elim
    (λ (f : (p < s) × (x' ≡ Open p)). rw (f.1, hy) tt)
    (λ (f : (s ≤ p) × (x' ≡ Closed c)). rw (f.1, hy) (omega (arith, b d refl)))
    hx
MayLead-close starts n s c (Closed a) Unseen x' y' l e b hx hy h = absurd h
MayLead-close starts n s c (Closed a) (Open q) x' y' l e b hx hy h = absurd h
MayLead-close starts n s c (Closed a) (Closed d) x' y' l e b hx hy h = rw (hx, hy) h
