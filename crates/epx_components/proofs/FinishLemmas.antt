-- The last group becomes a component.
use Rattle.std.proofs.Common.{◌≡◌, ℕ, ◌+◌, ◌-◌, ◌<◌, ◌≤◌, ◌⊎◌, inl, inr, List, ◌++◌, length, get_or}
use Rattle.std.proofs.Common.{take, drop, refl, sym, subst, ◌∙◌, ap, arith, length-append}
use Rattle.std.proofs.Common.{length-take}
use Rattle.epx_types.proofs.Common.{get_or-take, get_or_append_left, get_or-drop, length-drop}
use Rattle.epx_types.proofs.Common.{get_or_default, Contains-append_left, Contains-append_right}
use Rattle.epx_types.proofs.Common.{cases_lt}
use Rattle.std.proofs.lemmas.List.{get_or-append_right}
use Rattle.epx_components.proofs.CloseLemmas.{WasOpen, Closes-was_unseen, Closes-was_open}
use Rattle.epx_components.proofs.CloseLemmas.{Closes-was_closed}
use Rattle.epx_components.proofs.CloseLemmas.{Closes-stays_open, Closes-is_closed}
use Rattle.epx_components.proofs.CloseLemmas.{Closes-stays_closed, MayLead-close}
use Rattle.epx_components.proofs.PathEndLemmas.{AreRisingBelow-last}
use Rattle.epx_components.proofs.StartLemmas.{IsInGroupFrom-untake, AreRisingBelow-take}
use Rattle.epx_components.proofs.StartLemmas.{get_or-take_first}
use Rattle.epx_components.specs.inner.SearchInvariants.{AreFinished, IsSearch}
use Rattle.epx_components.specs.inner.SearchStates.{SearchState, visit_of}
use Rattle.epx_components.specs.inner.SearchSteps.{Closes, IsFinished}
use Rattle.epx_components.specs.inner.Starts.{IsInLastGroup}
use Rattle.epx_components.specs.declared.visit.Visit.{Visit}
use Rattle.epx_components.specs.declared.visit.Visit.TheVariants.{Closed, Open}

-- the nodes of the last group join the finished ones
finish_last_group : (edges : ℕ → List ℕ) (n seen : ℕ) (s : SearchState) (visits : List Visit)
    (start : ℕ) → IsSearch edges n seen s
    → ((k : ℕ) → Closes start s.count (visit_of s.visits k) (visit_of visits k))
    → start < length s.opened → IsInLastGroup s.starts start
    → ((i : ℕ) → i < length s.path → get_or s.path i 0 < start)
    → AreFinished edges visits s.looked_at (s.order ++ drop start s.opened) (s.count + 1)
finish_last_group edges n seen s visits start w at in' last off =
    let group = drop start s.opened in
    let all = s.order ++ group in
    let was : (k c : ℕ) → visit_of visits k ≡ Closed c
    → (visit_of s.visits k ≡ Closed c) ⊎ WasOpen start s.count (visit_of s.visits k) c =
    λ k c e. Closes-was_closed start s.count _ _ c (at k) e in
    let counted : (k c : ℕ) → visit_of visits k ≡ Closed c
    → c < s.count + 1 = λ k c e. elim (was k c e)
    [ inl h ↦ omega (arith, w.finished.counted k c h) | inr h ↦ omega (arith, h.3) ] in
    -- a node of the order is closed already, or is closed in this step
    let old : (i : ℕ) → i < length s.order → (c : ℕ)
    × (visit_of s.visits (get_or s.order i 0) ≡ Closed c)
    × (visit_of visits (get_or all i 0) ≡ Closed c) = λ i l.
    let c = w.finished.closed i l in (
      c.0,
      c.1,
      rw (get_or_append_left s.order group 0 i l)
          (Closes-stays_closed start s.count _ _ c.0 (at _) c.1),
    ) in
    let now : (i : ℕ) → length s.order ≤ i → i < length all
    → visit_of visits (get_or all i 0) ≡ Closed s.count = λ i le l.
    rw (
      get_or-append_right s.order group (length s.order) i 0 refl le,
      get_or-drop start s.opened (i - length s.order) 0,
    )
    (Closes-is_closed start s.count _ _ _ (at _)
    (w.row.is_open_at (start + (i - length s.order))
    (omega (arith, length-append s.order group, length-drop start s.opened))) (omega arith)) in
    let was_open : (i : ℕ) → length s.order ≤ i → i < length all
    → visit_of s.visits (get_or all i 0) ≡ Open (start + (i - length s.order)) = λ i le l.
    rw (
      get_or-append_right s.order group (length s.order) i 0 refl le,
      get_or-drop start s.opened (i - length s.order) 0,
    )
    (w.row.is_open_at (start + (i - length s.order))
    (omega (arith, length-append s.order group, length-drop start s.opened))) in
    record {
      counted = counted;
      joined = λ k j c ek ej. elim (was k c ek) [
        | inl h ↦ elim (was j c ej) [
          | inl g ↦ w.finished.joined k j c h g
          | inr g ↦ absurd (omega (arith, w.finished.counted k c h, g.3))
        ]
        | inr h ↦ elim (was j c ej) [
          | inl g ↦ absurd (omega (arith, w.finished.counted j c g, h.3))
          | inr g ↦ w.reaches k j h.0 g.0 h.1 g.1 (λ i l _. omega (arith, last i l, g.2))
        ]
      ];
      looked = λ k c e. elim (was k c e) [
        | inl h ↦ w.finished.looked k c h
        | inr h ↦ elim (w.waits k h.0 h.1) [
          | inl none ↦ none
          | inr on ↦ absurd
              (omega (arith, off on.0 on.1, get_or_default s.path on.0 0 h.0 on.1, on.2, h.2))
        ]
      ];
      listed = λ k c e. elim (was k c e) [
        | inl h ↦ Contains-append_left s.order group k (w.finished.listed k c h)
        | inr h ↦
            let here = w.row.placed k h.0 h.1 in
            Contains-append_right s.order group k (
              h.0 - start,
              omega (arith, h.2, here.0, length-drop start s.opened),
              get_or-drop start s.opened (h.0 - start) k
                  ∙ (ap (λ x. get_or s.opened x k) (omega (arith, h.2))
                  ∙ (get_or_default s.opened h.0 k 0 here.0 ∙ here.1)),
            )
      ];
      closed = λ i l. elim (cases_lt i (length s.order))
          [ inl h ↦ ((old i h).0, (old i h).2) | inr h ↦ (s.count, now i h l) ];
      sorted = λ i j c d le l ei ej. elim (cases_lt j (length s.order)) [
        | inl h ↦
            let a = old i (omega arith) in
            let b = old j h in
            let same_i : Closed a.0 ≡ Closed c = sym a.2 ∙ ei in
            let same_j : Closed b.0 ≡ Closed d = sym b.2 ∙ ej in
            let c_is : a.0 ≡ c = cc in
            let d_is : b.0 ≡ d = cc in
            omega (arith, w.finished.sorted i j a.0 b.0 le h a.1 b.1)
        | inr h ↦
            let same : Closed s.count ≡ Closed d = sym (now j h l) ∙ ej in
            let d_is : s.count ≡ d = cc in
            omega (arith, counted _ c ei)
      ];
      once = λ i j l h same. elim (cases_lt j (length s.order)) [
        | inl before ↦ w.finished.once i j l before
            (sym (get_or_append_left s.order group 0 i (omega arith))
            ∙ (same ∙ get_or_append_left s.order group 0 j before))
        | inr after ↦
            let at_j = was_open j (omega arith) h in
            elim (cases_lt i (length s.order)) [
              | inl before ↦
                  let c = w.finished.closed i before in
                  let at_i : visit_of s.visits (get_or all i 0) ≡ Closed c.0 =
                  rw (get_or_append_left s.order group 0 i before) c.1 in
                  let wrong : Closed c.0 ≡ Open (start + (j - length s.order)) =
                  sym at_i ∙ (ap (visit_of s.visits) same ∙ at_j) in
                  cc
              | inr both ↦
                  let at_i = was_open i (omega arith) (omega arith) in
                  let one : Open (start + (i - length s.order))
                  ≡ Open (start + (j - length s.order)) =
                  sym at_i ∙ (ap (visit_of s.visits) same ∙ at_j) in
                  let position : start + (i - length s.order) ≡ start + (j - length s.order) =
                  cc in
                  absurd (omega (arith, position, l, both))
            ]
      ];
      each = λ c l. elim (cases_lt c s.count) [
        | inl less ↦
            let e = w.finished.each c less in
            (e.0, Closes-stays_closed start s.count _ _ c (at _) e.1)
        | inr more ↦
            let is : s.count ≡ c = omega arith in
            let first = now (length s.order) (omega arith)
            (omega (arith, length-append s.order group, length-drop start s.opened)) in
            (get_or all (length s.order) 0, first ∙ ap Closed is)
      ];
      count_below = omega (
        arith,
        length-append s.order group,
        length-drop start s.opened,
        w.finished.count_below,
      );
    }

pub IsSearch-finish : (edges : ℕ → List ℕ) (n seen : ℕ) (s new : SearchState)
    → IsSearch edges n seen s → (f : IsFinished s new)
    → ((i : ℕ) → i < length s.path → get_or s.path i 0 < f.start) → IsSearch edges n seen new
IsSearch-finish edges n seen s new w f off =
    let start = f.start in
    let last = length s.starts - 1 in
    let is_last : last < length s.starts = omega (arith, f.last) in
    let in' : start < length s.opened = omega (arith, w.starts.below last is_last, f.last) in
    let long : length (take start s.opened) ≡ start = omega (arith, length-take start s.opened) in
    let at : (k : ℕ) → Closes start s.count (visit_of s.visits k) (visit_of new.visits k) =
    f.closes in
    let before : (k p : ℕ) → visit_of new.visits k ≡ Open p → (visit_of s.visits k ≡ Open p)
    × (p < start) = λ k p e. Closes-was_open start s.count _ _ p (at k) e in
    let low : (i : ℕ) → i < last → i < length s.starts → get_or s.starts i 0 < start =
    λ i l h. omega (arith, w.starts.rises i last l is_last, f.last) in
    let all_low : IsInLastGroup s.starts start =
    λ i l. omega (arith, AreRisingBelow-last s.starts (length s.opened) w.starts i l, f.last.1) in
    let P : SearchState → Type 0 = λ x. IsSearch edges n seen x in
    subst P (sym f.same) (record {
      all_visits = f.all_visits ∙ w.all_visits;
      looks = w.looks;
      seen_below = λ k l e. w.seen_below k l (Closes-was_unseen start s.count _ _ (at k) e);
      row = record {
        is_open_at = λ p l. let l' : p < start = omega arith in
            rw (get_or-take start s.opened p 0)
            (Closes-stays_open start s.count _ _ p (at _) (w.row.is_open_at p (omega arith)) l');
        placed = λ k p e. let b = before k p e in
            (omega (arith, b.1), get_or-take start s.opened p 0 b.1 ∙ (w.row.placed k p b.0).1);
      };
      starts = AreRisingBelow-take s.starts last _ _ w.starts (λ i l h. omega (arith, low i l h));
      begins = get_or-take_first s.starts last w.begins;
      grouped = λ h. elim (cases_lt 0 last) [
        | inl l ↦ omega (arith, length-take last s.starts)
        | inr l ↦ let e : last ≡ 0 = omega arith in
            absurd (omega (arith, w.begins, ap (λ x. get_or s.starts x 0) e, f.last.1, h))
      ];
      path = record { below = λ i l. omega (arith, off i l); rises = w.path.rises };
      waits = λ k p e. w.waits k p (before k p e).0;
      leads = λ k i l. MayLead-close s.starts last start s.count _ _ _ _ is_last f.last.1
          (λ d e. w.finished.counted _ d e) (at k) (at _) (w.leads k i l);
      reaches = λ k j p q hk hj from.
          let bk = before k p hk in
          w.reaches k j p q bk.0 (before j q hj).0
          (IsInGroupFrom-untake s.starts last p q (λ i h l. let e : last ≡ i = omega arith in
          omega (arith, ap (λ x. get_or s.starts x 0) e, f.last, bk.1)) from);
      finished = finish_last_group edges n seen s new.visits start w at in' all_low off;
    })
