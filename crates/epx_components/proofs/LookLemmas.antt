-- An edge has been looked at; a position leaves the path.
use Rattle.std.proofs.Common.{◌≡◌, ◌≢◌, ℕ, ◌+◌, ◌-◌, ◌<◌, ◌≤◌, inl, inr, ⊎_elim, List, length}
use Rattle.std.proofs.Common.{get_or, set, take, sym, subst, ◌∙◌, ap, arith, Contains, length-take}
use Rattle.std.proofs.Common.{length-set}
use Rattle.epx_types.proofs.Common.{get_or-take, get_or_default, get_or-set_same, get_or-set_other}
use Rattle.epx_types.proofs.Common.{cases_eq, cases_lt}
use Rattle.epx_components.proofs.VisitLemmas.{visit_of-within}
use Rattle.epx_components.proofs.StartLemmas.{AreRisingBelow-take}
use Rattle.epx_components.specs.inner.SearchInvariants.{IsSearch, MayLead}
use Rattle.epx_components.specs.inner.SearchStates.{SearchState, visit_of}
use Rattle.epx_components.specs.inner.SearchSteps.{IsTopNode}
use Rattle.epx_components.specs.declared.visit.Visit.TheVariants.{Closed, Open, Unseen}

pub IsSearch-look : (edges : ℕ → List ℕ) (n seen : ℕ) (s : SearchState) (k p : ℕ)
    → IsSearch edges n seen s → visit_of s.visits k ≡ Open p
    → get_or s.looked_at k 0 < length (edges k)
    → MayLead s.starts (visit_of s.visits k)
    (visit_of s.visits (get_or (edges k) (get_or s.looked_at k 0) 0))
    → IsSearch edges n seen
    (record s { looked_at = set s.looked_at k (get_or s.looked_at k 0 + 1) })
IsSearch-look edges n seen s k p w is left leads =
    let in' : k < length s.looked_at =
    omega (
      arith,
      visit_of-within s.visits k (λ e. let wrong : Open p ≡ Unseen = sym is ∙ e in cc),
      w.all_visits,
      w.looks,
    ) in
    let new = set s.looked_at k (get_or s.looked_at k 0 + 1) in
    let same : get_or new k 0 ≡ get_or s.looked_at k 0 + 1 =
    get_or-set_same s.looked_at k _ 0 in' in
    let other : (j : ℕ) → j ≢ k → get_or new j 0 ≡ get_or s.looked_at j 0 =
    λ j ne. get_or-set_other s.looked_at k j _ 0 ne in
    let Led : ℕ → ℕ → Type 0 = λ j i. MayLead s.starts (visit_of s.visits j)
    (visit_of s.visits (get_or (edges j) i 0)) in
    record {
      all_visits = w.all_visits;
      looks = length-set s.looked_at k _ ∙ w.looks;
      seen_below = w.seen_below;
      row = w.row;
      starts = w.starts;
      begins = w.begins;
      grouped = w.grouped;
      path = w.path;
      waits = λ j q h. ⊎_elim
          (λ (e : j ≡ k). ⊎_elim
          (λ (f : length (edges j) ≤ get_or s.looked_at j 0). absurd
          (omega (arith, ap (λ x. get_or s.looked_at x 0) e, ap (λ x. length (edges x)) e)))
          (λ f. inr f)
          (w.waits j q h))
          (λ (ne : j ≢ k). ⊎_elim (λ (f : length (edges j) ≤ get_or s.looked_at j 0).
          inl (omega (arith, other j ne))) (λ f. inr f) (w.waits j q h))
          (cases_eq j k);
      leads = λ j i h. ⊎_elim
          (λ (e : j ≡ k). ⊎_elim
          (λ (l : i < get_or s.looked_at k 0). w.leads j i (rw e l))
          (λ (l : get_or s.looked_at k 0 ≤ i).
          let at : get_or s.looked_at k 0 ≡ i = omega (arith, h, ap (λ x. get_or new x 0) e) in
          subst (λ x. Led x i) (sym e) (subst (Led k) at leads))
          (cases_lt i (get_or s.looked_at k 0)))
          (λ (ne : j ≢ k). w.leads j i (omega (arith, h, other j ne)))
          (cases_eq j k);
      reaches = w.reaches;
      finished = record {
        counted = w.finished.counted;
        joined = w.finished.joined;
        looked = λ j c h. omega (
          arith,
          w.finished.looked j c h,
          other j (λ e. let wrong : Open p ≡ Closed c =
              sym is ∙ (ap (visit_of s.visits) (sym e) ∙ h) in cc),
        );
        listed = w.finished.listed;
        closed = w.finished.closed;
        sorted = w.finished.sorted;
        once = w.finished.once;
        each = w.finished.each;
        count_below = w.finished.count_below;
      };
    }

-- the last position leaves the path, since its node has no edge left
pub IsSearch-pop : (edges : ℕ → List ℕ) (n seen : ℕ) (s : SearchState) (k : ℕ)
    → IsSearch edges n seen s → IsTopNode s k → length (edges k) ≤ get_or s.looked_at k 0
    → IsSearch edges n seen (record s { path = take (length s.path - 1) s.path })
IsSearch-pop edges n seen s k w top none =
    let last = length s.path - 1 in
    record {
      all_visits = w.all_visits;
      looks = w.looks;
      seen_below = w.seen_below;
      row = w.row;
      starts = w.starts;
      begins = w.begins;
      grouped = w.grouped;
      path = AreRisingBelow-take s.path last _ _ w.path (λ i _ l. w.path.below i l);
      waits = λ j p h. ⊎_elim (λ f. inl f)
          (λ (f : Contains s.path p). ⊎_elim
          (λ (l : f.0 < last). inr (
            f.0,
            omega (arith, length-take last s.path),
            get_or-take last s.path f.0 p l ∙ f.2,
          ))
          (λ (l : last ≤ f.0).
          let ends : last ≡ f.0 = omega (arith, f.1) in
          let p_is : get_or s.path last 0 ≡ p =
          ap (λ x. get_or s.path x 0) ends ∙ (get_or_default s.path f.0 0 p f.1 ∙ f.2) in
          let j_is : j ≡ k = sym (w.row.placed j p h).1
          ∙ (ap (λ x. get_or s.opened x 0) (sym p_is ∙ top.ends) ∙ top.node) in
          inl (rw j_is none))
          (cases_lt f.0 last))
          (w.waits j p h);
      leads = w.leads;
      reaches = w.reaches;
      finished = w.finished;
    }
