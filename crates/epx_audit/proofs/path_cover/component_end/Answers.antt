use Rattle.std.proofs.Common.{◌≡◌, inl, inr, Bool, true, false, not, slice_get, refl, sym, ap, ◌∙◌}
use Rattle.std.proofs.Common.{arith}
use Rattle.epx_types.proofs.Common.{cases_lt, id_eq-Decides}
use Rattle.epx_audit.proofs.path_cover.component_end.Goals as goal

not_false : (b : Bool) → not b ≡ false → b ≡ true
not_false true h = refl
not_false false h = cc

pub returns-then-ne-clause-joined : goal.returns-then-ne-clause-joined
returns-then-ne-clause-joined c = λ edges nodes joined p from below.
    let r = c.loop-position.invariant p from below in
    let s = c.component_of-leader.ensures in (
      joined c.args.start p s.0 r.0 s.1 r.1 (s.2 ∙ sym r.2),
      joined p c.args.start r.0 s.0 r.1 s.1 (r.2 ∙ sym s.2),
    )

pub loop-position-preserved : goal.loop-position-preserved
loop-position-preserved c = λ p from below. elim (cases_lt p c.loop-position.position) [
  | inl earlier ↦ c.loop-position.invariant p from earlier
  | inr here ↦
      let same : c.loop-position.position ≡ p = omega arith in
      let r = c.component_of.ensures in
      let leader : c.component_of.result ≡ c.component_of-leader.result =
      (id_eq-Decides c.component_of.result c.component_of-leader.result).0
      (not_false _ (sym c.ne.ensures ∙ c.if-ne.false)) in
      (r.0, ap (slice_get c.args.order.now) (sym same) ∙ r.1, r.2 ∙ leader)
]

pub returns-clause-joined : goal.returns-clause-joined
returns-clause-joined c = λ edges nodes joined p from below.
    let r = c.loop-position.invariant p from (omega arith) in
    let s = c.component_of-leader.ensures in (
      joined c.args.start p s.0 r.0 s.1 r.1 (s.2 ∙ sym r.2),
      joined p c.args.start r.0 s.0 r.1 s.1 (r.2 ∙ sym s.2),
    )
