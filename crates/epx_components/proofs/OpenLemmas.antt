-- A node is opened.
use Rattle.std.proofs.Common.{◌≡◌, ◌≢◌, ℕ, ◌<◌, ◌≤◌, ◌⊎◌, inl, inr, ⊎_elim, List, [], ◌∷◌, ◌++◌}
use Rattle.std.proofs.Common.{length, get_or, set, sym, subst, ◌∙◌, ap, arith, Contains, length-set}
use Rattle.epx_types.proofs.Common.{get_or-set_same, get_or-set_other, get_or_append_left}
use Rattle.epx_types.proofs.Common.{get_or_push, length_push, Contains-push, Contains-append_left}
use Rattle.epx_graph.proofs.Common.{NodeReaches}
use Rattle.epx_components.proofs.NodePathLemmas.{NodeReaches-itself}
use Rattle.epx_components.proofs.VisitLemmas.{MayLead-from, MayLead-push, MayLead-to}
use Rattle.epx_components.proofs.VisitLemmas.{visit_of-set_cases}
use Rattle.epx_components.proofs.StartLemmas.{IsInGroupFrom-pushed, IsInGroupFrom-unpush}
use Rattle.epx_components.proofs.StartLemmas.{AreRisingBelow-push, get_or-push_first}
use Rattle.epx_components.proofs.StartLemmas.{get_or-push_cases}
use Rattle.epx_components.specs.inner.SearchInvariants.{AreFinished, IsRow, IsSearch}
use Rattle.epx_components.specs.inner.SearchStates.{SearchState, visit_of}
use Rattle.epx_components.specs.inner.SearchSteps.{after_enter}
use Rattle.epx_components.specs.declared.visit.Visit.{Visit}
use Rattle.epx_components.specs.declared.visit.Visit.TheVariants.{Closed, Open, Unseen}

enter_row : (visits : List Visit) (opened : List ℕ) (k : ℕ) → IsRow visits opened
    → k < length visits → visit_of visits k ≡ Unseen
    → IsRow (set visits k (Open (length opened))) (opened ++ k ∷ [])
enter_row visits opened k r l un =
    let m = length opened in
    let new = set visits k (Open m) in
    record {
      is_open_at = get_or-push_cases opened k (λ p j. visit_of new j ≡ Open p)
          (λ p h. get_or-set_other visits k _ _ Unseen
          (λ e. let wrong : Open p ≡ Unseen =
          sym (r.is_open_at p h) ∙ (ap (visit_of visits) e ∙ un) in
          cc) ∙ r.is_open_at p h)
          (get_or-set_same visits k (Open m) Unseen l);
      placed = λ j p h. ⊎_elim
          (λ (e : (j ≡ k) × (visit_of new j ≡ Open m)).
          let same : Open m ≡ Open p = sym e.1 ∙ h in
          let at : m ≡ p = cc in
          (omega (arith, length_push opened k), get_or_push opened k 0 p at ∙ sym e.0))
          (λ (e : (j ≢ k) × (visit_of new j ≡ visit_of visits j)).
          let old = r.placed j p (sym e.1 ∙ h) in (
            omega (arith, old.0, length_push opened k),
            get_or_append_left opened (k ∷ []) 0 p old.0 ∙ old.1,
          ))
          (visit_of-set_cases visits k (Open m) j l);
    }

-- the finished components stay the same
enter_finished : (edges : ℕ → List ℕ) (visits : List Visit) (looked_at order : List ℕ)
    (count k m : ℕ) → AreFinished edges visits looked_at order count → k < length visits
    → visit_of visits k ≡ Unseen → AreFinished edges (set visits k (Open m)) looked_at order count
enter_finished edges visits looked_at order count k m d l un =
    let new = set visits k (Open m) in
    let back : (j c : ℕ) → visit_of new j ≡ Closed c → visit_of visits j ≡ Closed c = λ j c h.
    ⊎_elim
    (λ (e : (j ≡ k) × (visit_of new j ≡ Open m)). let wrong : Open m ≡ Closed c = sym e.1 ∙ h in
    cc)
    (λ (e : (j ≢ k) × (visit_of new j ≡ visit_of visits j)). sym e.1 ∙ h)
    (visit_of-set_cases visits k (Open m) j l)
    in
    let on : (j c : ℕ) → visit_of visits j ≡ Closed c → visit_of new j ≡ Closed c = λ j c h.
    get_or-set_other visits k j _ Unseen (λ e. let wrong : Closed c ≡ Unseen =
    sym h ∙ (ap (visit_of visits) e ∙ un) in cc) ∙ h
    in
    record {
      counted = λ j c h. d.counted j c (back j c h);
      joined = λ i j c h g. d.joined i j c (back i c h) (back j c g);
      looked = λ j c h. d.looked j c (back j c h);
      listed = λ j c h. d.listed j c (back j c h);
      closed = λ i h. ((d.closed i h).0, on _ _ (d.closed i h).1);
      sorted = λ i j b c le h e g. d.sorted i j b c le h (back _ b e) (back _ c g);
      once = d.once;
      each = λ c h. ((d.each c h).0, on _ c (d.each c h).1);
      count_below = d.count_below;
    }

pub IsSearch-enter : (edges : ℕ → List ℕ) (n seen : ℕ) (s : SearchState) (k : ℕ)
    → IsSearch edges n seen s → k < n → visit_of s.visits k ≡ Unseen
    → ((j p : ℕ) → visit_of s.visits j ≡ Open p → NodeReaches edges j k)
    → IsSearch edges n seen (after_enter s k)
IsSearch-enter edges n seen s k w l un all =
    let m = length s.opened in
    let in' : k < length s.visits = omega (arith, w.all_visits) in
    let new = set s.visits k (Open m) in
    let cases : (j : ℕ) → ((j ≡ k) × (visit_of new j ≡ Open m))
    ⊎ ((j ≢ k) × (visit_of new j ≡ visit_of s.visits j)) =
    λ j. visit_of-set_cases s.visits k (Open m) j in' in
    let kept : (j : ℕ) → visit_of s.visits j ≢ Unseen → visit_of new j ≡ visit_of s.visits j =
    λ j h. get_or-set_other s.visits k j _ Unseen (λ e. h (ap (visit_of s.visits) e ∙ un)) in
    record {
      all_visits = length-set s.visits k (Open m) ∙ w.all_visits;
      looks = w.looks;
      seen_below = λ j h e. w.seen_below j h (sym (kept j (w.seen_below j h)) ∙ e);
      row = enter_row s.visits s.opened k w.row in' un;
      starts = AreRisingBelow-push s.starts m _ w.starts (omega (arith, length_push s.opened k));
      begins = get_or-push_first s.starts m w.begins w.grouped;
      grouped = λ _. omega (arith, length_push s.starts m);
      path = AreRisingBelow-push s.path m _ w.path (omega (arith, length_push s.opened k));
      finished = enter_finished edges s.visits s.looked_at s.order s.count k m w.finished in' un;
      waits = λ j p h. ⊎_elim
          (λ (e : (j ≡ k) × (visit_of new j ≡ Open m)).
          let same : Open m ≡ Open p = sym e.1 ∙ h in
          let at : m ≡ p = cc in
          inr (subst (Contains (s.path ++ m ∷ [])) at (Contains-push s.path m)))
          (λ (e : (j ≢ k) × (visit_of new j ≡ visit_of s.visits j)).
          ⊎_elim (λ h. inl h) (λ h. inr (Contains-append_left s.path (m ∷ []) p h))
          (w.waits j p (sym e.1 ∙ h)))
          (cases j);
      leads = λ j i h.
          let old = w.leads j i h in
          let from = kept j (MayLead-from _ _ _ old) in
          let to = kept (get_or (edges j) i 0) (MayLead-to _ _ _ old) in
          rw (from, to) (MayLead-push s.starts m _ _ (λ p e. (w.row.placed j p e).0) old);
      reaches = λ i j p q hi hj from. ⊎_elim
          (λ (e : (i ≡ k) × (visit_of new i ≡ Open m)). ⊎_elim
          (λ (f : (j ≡ k) × (visit_of new j ≡ Open m)). NodeReaches-itself edges i j
          (e.0 ∙ sym f.0))
          (λ (f : (j ≢ k) × (visit_of new j ≡ visit_of s.visits j)).
          let same : Open m ≡ Open p = sym e.1 ∙ hi in
          let at : m ≡ p = cc in
          let last : m ≤ q = IsInGroupFrom-pushed s.starts m p q (omega arith) from in
          absurd (omega (arith, (w.row.placed j q (sym f.1 ∙ hj)).0)))
          (cases j))
          (λ (e : (i ≢ k) × (visit_of new i ≡ visit_of s.visits i)). ⊎_elim
          (λ (f : (j ≡ k) × (visit_of new j ≡ Open m)). rw f.0 (all i p (sym e.1 ∙ hi)))
          (λ (f : (j ≢ k) × (visit_of new j ≡ visit_of s.visits j)).
          w.reaches i j p q (sym e.1 ∙ hi) (sym f.1 ∙ hj)
          (IsInGroupFrom-unpush s.starts m p q from))
          (cases j))
          (cases i);
    }
