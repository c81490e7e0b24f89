-- The groups from a position on become one.
use Rattle.std.proofs.Common.{◌≡◌, ℕ, ◌<◌, ◌≤◌, ⊎_elim, List, sym, subst, arith, length-take}
use Rattle.epx_types.proofs.Common.{cases_lt}
use Rattle.epx_graph.proofs.Common.{NodeReaches}
use Rattle.epx_components.proofs.NodePathLemmas.{NodeReaches-trans}
use Rattle.epx_components.proofs.VisitLemmas.{MayLead-take}
use Rattle.epx_components.proofs.StartLemmas.{IsInGroupFrom-untake, AreRisingBelow-take}
use Rattle.epx_components.proofs.StartLemmas.{get_or-take_first}
use Rattle.epx_components.specs.inner.SearchInvariants.{IsSearch}
use Rattle.epx_components.specs.inner.SearchStates.{SearchState, visit_of}
use Rattle.epx_components.specs.inner.Starts.{IsCutAbove}
use Rattle.epx_components.specs.declared.visit.Visit.TheVariants.{Open}

pub IsSearch-cut : (edges : ℕ → List ℕ) (n seen : ℕ) (s : SearchState) (new : List ℕ) (k t : ℕ)
    → IsSearch edges n seen s → visit_of s.visits k ≡ Open t
    → ((j p : ℕ) → visit_of s.visits j ≡ Open p → NodeReaches edges j k) → IsCutAbove t s.starts new
    → IsSearch edges n seen (record s { starts = new })
IsSearch-cut edges n seen s new k t w is all cut =
    let m = cut.kept in
    let P : List ℕ → Type 0 = λ starts. IsSearch edges n seen (record s { starts = starts }) in
    subst P (sym cut.same) (record {
      all_visits = w.all_visits;
      looks = w.looks;
      seen_below = w.seen_below;
      row = w.row;
      starts = AreRisingBelow-take s.starts m _ _ w.starts (λ i _ l. w.starts.below i l);
      begins = get_or-take_first s.starts m w.begins;
      grouped = λ h. ⊎_elim
          (λ (l : 0 < m). omega (arith, length-take m s.starts, cut.within))
          (λ (l : m ≤ 0). absurd (omega (arith, cut.above 0 l (w.grouped h), w.begins)))
          (cases_lt 0 m);
      path = w.path;
      waits = w.waits;
      leads = λ j i h. MayLead-take s.starts m _ _ (w.leads j i h);
      reaches = λ i j p q hi hj from. ⊎_elim
          (λ (l : p < t). w.reaches i j p q hi hj
          (IsInGroupFrom-untake s.starts m p q (λ b h in'. omega (arith, cut.above b h in')) from))
          (λ (l : t ≤ p). NodeReaches-trans edges i k j (all i p hi) (w.reaches k j t q is hj
          (IsInGroupFrom-untake s.starts m t q cut.above (λ b h le. from b h (omega arith)))))
          (cases_lt p t);
      finished = w.finished;
    })
