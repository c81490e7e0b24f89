use Rattle.std.proofs.Common.{◌≡◌, ◌≢◌, ◌⊎◌, inr, ◌∙◌, ◌+◌, ◌-◌, ◌<◌, ◌≤◌, ℕ, List, length, take}
use Rattle.std.proofs.Common.{get_or, Contains, refl, sym, ap, subst, arith}
use Rattle.epx_types.proofs.Common.{length-set, take_all, All-get_or}
use Rattle.epx_blockers.specs.inner.NodeCounts.{IsOneMoreIf}
use Rattle.epx_blockers.proofs.NodeCountLemmas.{get_or-set_target, IsOneMoreIf-step}
use Rattle.epx_blockers.proofs.named.add_missing.Goals as goal
use Rattle.epx_blockers.proofs.named.add_missing.Goals.{then-target-committed}
use Rattle.epx_blockers.proofs.named.add_missing.Goals.{else-target-committed}

pub loop-target-preserved : goal.loop-target-preserved
loop-target-preserved c =
    let committed = c.args.committed in
    let targets = c.args.targets.now in
    let e = c.loop-target.target-index in
    let target = get_or targets e 0 in
    let old = c.loop-target.named in
    let step : (i new : ℕ) → i < length c.args.named.now
    → ((target ≡ committed + i) × (new ≡ get_or old i 0 + 1))
    ⊎ ((target ≢ committed + i) × (new ≡ get_or old i 0))
    → IsOneMoreIf (Contains (take (e + 1) targets) (committed + i)) (get_or c.args.named.now i 0)
    new =
    λ i new l change. IsOneMoreIf-step targets e (committed + i) (get_or c.args.named.now i 0)
    (get_or old i 0) new c.loop-target-test.true c.requires.rising
    (c.loop-target.invariant.each i l) change in
    elim c.if-target-committed.branch [
      | then-target-committed w ↦
          let past : committed ≤ target = w.if-target-committed.true in
          let within : target - committed < length old =
          omega (
            arith,
            past,
            c.loop-target.invariant.len,
            All-get_or (λ j. j < committed + length c.args.named.now) targets e 0
                c.loop-target-test.true c.requires.within,
          ) in
          let Changed : ℕ → List ℕ → Type 0 = λ i ns.
          ((target ≡ committed + i) × (get_or ns i 0 ≡ get_or old i 0 + 1))
          ⊎ ((target ≢ committed + i) × (get_or ns i 0 ≡ get_or old i 0)) in
          record {
            len = ap length w.named-is ∙ length-set old _ _ ∙ c.loop-target.invariant.len;
            each = λ i l. step i (get_or c.if-target-committed.named i 0) l
                (subst (Changed i) (sym w.named-is)
                (get_or-set_target old committed target i past within
                (get_or old (target - committed) 0) refl));
          }
      | else-target-committed w ↦ record {
        len = ap length w.named-is ∙ c.loop-target.invariant.len;
        each = λ i l. step i (get_or c.if-target-committed.named i 0) l (inr (
          λ same. absurd (omega (arith, same, w.if-target-committed.false)),
          ap (λ ns. get_or ns i 0) w.named-is,
        ));
      }
    ]

pub returns-clause-each : goal.returns-clause-each
returns-clause-each c i l =
    let targets = c.args.targets.now in
    subst (λ (ts : List ℕ). IsOneMoreIf (Contains ts (c.args.committed + i))
    (get_or c.args.named.now i 0) (get_or c.loop-target.named i 0))
    (take_all c.loop-target.target-index targets (omega (arith, c.loop-target-test.false)))
    (c.loop-target.invariant.each i l)
