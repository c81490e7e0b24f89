use Rattle.std.proofs.Common.{◌≡◌, inl, inr, ℕ, ◌<◌, length, get_or, sym, subst}
use Rattle.epx_types.proofs.Common.{get_or_read, All-get_or}
use Rattle.epx_components.proofs.CollectionLemmas.{LeadsOut-next, iff-or_more}
use Rattle.epx_components.proofs.bottom_up.add_targets.Goals as goal
use Rattle.epx_components.proofs.bottom_up.add_targets.Goals.{then-other-own, else-other-own}

pub loop-target-preserved : goal.loop-target-preserved
loop-target-preserved g c = λ t.
    let component = c.args.component.now in
    let values = c.args.values.now in
    let i = c.loop-target.target-index in
    let other : ℕ = get_or component (get_or c.args.targets.now i 0) 0 in
    let gives = g.C.Collector.gives c.args.collector.now in
    let has = g.C.Collector.has t in
    iff-or_more _ _ _ _ _ _ (c.loop-target.invariant t)
    (LeadsOut-next component c.args.own c.args.targets.now i
    (λ d. gives d (get_or values d g.C.Collector.none) t))
    (elim c.if-other-own.branch [
      | then-other-own w ↦
          let add = w.add-value.ensures t in
          let within : other < length values =
          All-get_or (λ c. c < length values) component _ 0
          (All-get_or (λ j. j < length component) c.args.targets.now i 0 c.loop-target-test.true
          c.requires.targets) c.requires.counted in
          let read : w.index-values-other.result ≡ get_or values other g.C.Collector.none =
          get_or_read values other _ within w.index-values-other.is g.C.Collector.none in (
            λ h. elim (add.0 (subst has w.value-is h)) [
              | inl was ↦ inl was
              | inr now ↦ inr (w.if-other-own.true, subst (λ v. gives other v t) read now)
            ],
            λ h. subst has (sym w.value-is) (add.1 (elim h [
              | inl was ↦ inl was
              | inr (ne, now) ↦ inr (subst (λ v. gives other v t) (sym read) now)
            ])),
          )
      | else-other-own w ↦ (
        λ h. inl (subst has w.value-is h),
        λ h. subst has (sym w.value-is) (elim h [
          | inl was ↦ was
          | inr (ne, now) ↦ absurd (ne w.if-other-own.false)
        ]),
      )
    ])
