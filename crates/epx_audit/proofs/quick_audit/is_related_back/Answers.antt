use Rattle.std.proofs.Common.{◌≡◌, ◌≤◌, inl, inr, length, sym, subst, ap, ◌∙◌, arith}
use Rattle.epx_types.proofs.Common.{cases_lt, false≢true, Contains-get_or}
use Rattle.epx_graph.proofs.Common.{edges_of}
use Rattle.epx_audit.specs.declared.search.PathSearch.{PathSearch}
use Rattle.epx_audit.specs.inner.RelatedTouches.{touch_at, TouchReaches}
use Rattle.epx_audit.proofs.quick_audit.is_related_back.Goals as goal
use Rattle.epx_audit.proofs.quick_audit.is_related_back.Goals.{then-touch, else-touch}
use Rattle.epx_audit.proofs.quick_audit.is_related_back.Goals.{then-touch-2, else-touch-2}
use Rattle.epx_audit.proofs.quick_audit.is_related_back.Goals.{else-asked-via-then-asked+in_ok-reaches+else-not-branch}
use Rattle.epx_audit.proofs.quick_audit.is_related_back.Goals.{else-asked-via-else-asked}

pub reaches-requires-clause-later : goal.reaches-requires-clause-later
reaches-requires-clause-later c =
    c.requires.placed _ (Contains-get_or c.args.touches.now c.args.index _ c.requires.index)

pub reaches-requires-clause-earlier : goal.reaches-requires-clause-earlier
reaches-requires-clause-earlier c =
    let within : c.if-touch.end ≤ c.args.index = elim c.if-touch.branch [
      | then-touch w ↦ omega (arith, w.end-is)
      | else-touch w ↦ omega (arith, w.end-is, w.min-end.ensures)
    ] in
    c.requires.placed _ (Contains-get_or c.args.touches.now c.loop-earlier.earlier _
    (omega (arith, within, c.loop-earlier-test.true, c.requires.index)))

pub loop-earlier-preserved : goal.loop-earlier-preserved
loop-earlier-preserved c =
    let touches = c.args.touches.now in
    let now = c.loop-earlier.earlier in
    elim c.else-asked.branch [
      | else-asked-via-then-asked+in_ok-reaches+else-not-branch w ↦ record {
        seen = ap (λ (w : PathSearch). length w.seen.items) w.path_search-is
            ∙ (w.in_ok-reaches.ensures.seen ∙ c.loop-earlier.invariant.seen);
        related_back = λ j l below one. elim (cases_lt j now) [
          | inl past ↦ c.loop-earlier.invariant.related_back j l past one
          | inr here ↦
              let same : now ≡ j = omega arith in
              subst (λ j. TouchReaches (edges_of c.args.graph.now) c.args.reach.now.nodes.items
              touches c.args.index j) same
              (w.in_ok-reaches.ensures.reaches w.if-not-branch.false)
        ];
      }
      | else-asked-via-else-asked w ↦ record {
        seen = ap (λ (w : PathSearch). length w.seen.items) w.path_search-is
            ∙ c.loop-earlier.invariant.seen;
        related_back = λ j l below one. elim (cases_lt j now) [
          | inl past ↦ c.loop-earlier.invariant.related_back j l past one
          | inr here ↦
              let same : now ≡ j = omega arith in
              elim c.if-touch-2.branch [
                | then-touch-2 v ↦ absurd
                    (false≢true (sym w.if-asked.false ∙ (v.asked-is ∙ v.if-touch-2.true)))
                | else-touch-2 v ↦ elim one [
                  | inl writing ↦ absurd (false≢true (sym v.if-touch-2.false ∙ writing))
                  | inr wrote ↦ absurd
                      (false≢true (sym w.if-asked.false
                      ∙ (v.asked-is ∙ (ap (λ j. (touch_at touches j).writes) same ∙ wrote))))
                ]
              ]
        ];
      }
    ]
