use Rattle.std.proofs.Common.{◌≡◌, ◌∙◌, ◌≤◌, ◌+◌, ◌++◌, [], ap, append-nil, arith}
use Rattle.std.proofs.Common.{drop, length, refl, subst, subst₂, sym, take}
use Rattle.std.proofs.lemmas.Result.{err_from_is_err_and}
use Rattle.epx_types.proofs.Common.{common_steps, length-append}
use Rattle.epx_types.specs.declared.fault.Fault.TheVariants.{Memory}
use Rattle.epx_devices.proofs.TransferLemmas.{take-rest}
use Rattle.epx_lines.specs.Lines.{lines_of}
use Rattle.epx_merge.specs.LogParts.{EndsLine}
use Rattle.epx_follow.specs.Following.{FollowerView}
use Rattle.epx_follow.specs.FollowingStops.{StopsAmong}
use Rattle.epx_follow.specs.inner.PartsTaken.{StopsInPart, TakesBytes, TakesPart}
use Rattle.epx_follow.proofs.LogPartLemmas.{take-append_drop, EndsLine-begun, StopsInPart-lines}
use Rattle.epx_follow.proofs.LogPartLemmas.{StopsInPart-taken, TakesPart-all_lines}
use Rattle.epx_follow.proofs.LogPartLemmas.{TakesPart-no_lines}
use Rattle.epx_follow.proofs.LogPartLemmas.{TakesPart-append}
use Rattle.epx_follow.proofs.follow_logs.follow_part.Given.{Over}
use Rattle.epx_follow.proofs.follow_logs.follow_part.Goals.{After-extend_from_slice-2}
use Rattle.epx_follow.proofs.follow_logs.follow_part.Goals.{else-end-gt0}
use Rattle.epx_follow.proofs.follow_logs.follow_part.Goals.{then-end-gt0+in_ok-map_err+in_ok-follower}
use Rattle.epx_follow.proofs.follow_logs.follow_part.Goals as goal

pub returns-in_err-map_err-clause-stopped : goal.returns-in_err-map_err-clause-stopped
returns-in_err-map_err-clause-stopped g c =
    let v = c.args.follower in
    let bytes = c.args.begun.now.items ++ c.args.part.now in
    let out = g.W.Sink.model.contents c.args.output.now in
    let lost = StopsInPart-taken c.args.each v v bytes bytes out out
    (TakesPart-no_lines c.args.each v v bytes bytes out out refl refl refl) in
    let p = err_from_is_err_and c.from_residual.result c.from_residual.ensures.1 in
    rw (p.1, p.2) lost

pub returns-in_err-follower-clause-stopped : goal.returns-in_err-follower-clause-stopped
returns-in_err-follower-clause-stopped g c =
    let W = g.W.Sink.model in
    let v = c.args.follower in
    let begun = c.args.begun.now.items in
    let part = c.args.part.now in
    let end = c.lines_end-end.result in
    let first = begun ++ take end part in
    let was = W.contents c.args.output.now in
    let now = W.contents c.take_lines.new.output in
    let fault = c.in_err-follower.field-0.0 in
    let grown : c.extend_from_slice.new.self.items ≡ first = grind (arith, common_steps) in
    let whole : EndsLine first = EndsLine-begun begun part end c.if-end-gt0.true
    c.lines_end-end.ensures.within c.lines_end-end.ensures.lines in
    let stops : StopsInPart c.args.each v (begun ++ part) fault was now =
    subst (λ bs. StopsInPart c.args.each v bs fault was now) (take-append_drop begun part end)
    (StopsInPart-lines c.args.each v first (drop end part) fault was now whole
    (subst (λ bs. StopsAmong c.args.each v (lines_of bs) fault [] was now)
    (c.deref.ensures.value ∙ grown) c.in_err-follower.ensures.stopped)) in
    let p = err_from_is_err_and c.from_residual-in_err-follower.result
    c.from_residual-in_err-follower.ensures.1 in
    rw (p.1, p.2) stops

-- what is taken where the branches join: the whole lines, or nothing
taken_first : (g : Over) (c : After-extend_from_slice-2 g)
    → TakesPart c.args.each c.args.follower
    (c.args.begun.now.items ++ take c.lines_end-end.result c.args.part.now)
    c.if-end-gt0.follower c.if-end-gt0.begun.items (g.W.Sink.model.contents c.args.output.now)
    (g.W.Sink.model.contents c.if-end-gt0.output)
taken_first g c =
    let W = g.W.Sink.model in
    let v = c.args.follower in
    let begun = c.args.begun.now.items in
    let part = c.args.part.now in
    let end = c.lines_end-end.result in
    let first = begun ++ take end part in
    let was = W.contents c.args.output.now in
    let now = W.contents c.if-end-gt0.output in
    elim c.if-end-gt0.branch [
      | then-end-gt0+in_ok-map_err+in_ok-follower w ↦
          let grown : w.extend_from_slice.new.self.items ≡ first = grind (arith, common_steps) in
          let cleared : w.clear.new.self.items ≡ [] = grind (arith, common_steps) in
          TakesPart-all_lines c.args.each v w.in_ok-follower.follower c.if-end-gt0.follower first
          c.if-end-gt0.begun.items was (W.contents w.take_lines.new.output) now
          (EndsLine-begun begun part end w.if-end-gt0.true c.lines_end-end.ensures.within
          c.lines_end-end.ensures.lines)
          (subst (λ bs. TakesBytes c.args.each v bs w.in_ok-follower.follower was
          (W.contents w.take_lines.new.output))
          (w.deref.ensures.value ∙ grown) w.in_ok-follower.ensures.taken) w.follower-is
          (ap (λ b. b.items) w.begun-is ∙ cleared) (ap W.contents w.output-is)
      | else-end-gt0 w ↦
          let zero : end ≡ 0 = omega (arith, w.if-end-gt0.false) in
          let same : first ≡ begun = ap (λ n. begun ++ take n part) zero ∙ append-nil begun in
          TakesPart-no_lines c.args.each v c.if-end-gt0.follower first c.if-end-gt0.begun.items was
          now
          w.follower-is (same ∙ sym (ap (λ b. b.items) w.begun-is)) (ap W.contents w.output-is)
    ]

pub returns-in_err-map_err-2-clause-stopped : goal.returns-in_err-map_err-2-clause-stopped
returns-in_err-map_err-2-clause-stopped g c =
    let W = g.W.Sink.model in
    let v = c.args.follower in
    let begun = c.args.begun.now.items in
    let part = c.args.part.now in
    let end = c.lines_end-end.result in
    let first = begun ++ take end part in
    let was = W.contents c.args.output.now in
    let now = W.contents c.if-end-gt0.output in
    let taken = taken_first g
    (goal.at.returns-in_err-map_err-2-clause-stopped g c).After-extend_from_slice-2 in
    let lost =
    subst (λ bs. StopsInPart c.args.each v bs Memory was now) (take-append_drop begun part end)
    (StopsInPart-taken c.args.each v c.if-end-gt0.follower (first ++ drop end part)
    (c.if-end-gt0.begun.items ++ drop end part) was now
    (TakesPart-append c.args.each v c.if-end-gt0.follower first c.if-end-gt0.begun.items
    (drop end part)
    was now taken)) in
    let p = err_from_is_err_and c.from_residual-in_err-map_err-2.result
    c.from_residual-in_err-map_err-2.ensures.1 in
    rw (p.1, p.2) lost

pub returns-clause-taken : goal.returns-clause-taken
returns-clause-taken g c =
    let W = g.W.Sink.model in
    let v = c.args.follower in
    let begun = c.args.begun.now.items in
    let part = c.args.part.now in
    let end = c.lines_end-end.result in
    let first = begun ++ take end part in
    let was = W.contents c.args.output.now in
    let now = W.contents c.if-end-gt0.output in
    let taken = taken_first g (goal.at.returns-clause-taken g c).After-extend_from_slice-2 in
    let grown : c.extend_from_slice-2.new.self.items ≡ c.if-end-gt0.begun.items ++ drop end part =
    grind (arith, common_steps, take-rest end part) in
    subst₂ (λ bs left. TakesPart c.args.each v bs c.if-end-gt0.follower left was now)
    (take-append_drop begun part end) (sym grown)
    (TakesPart-append c.args.each v c.if-end-gt0.follower first c.if-end-gt0.begun.items
    (drop end part)
    was now taken)

pub returns-clause-counted : goal.returns-clause-counted
returns-clause-counted g c =
    let begun = c.args.begun.now.items in
    let part = c.args.part.now in
    let end = c.lines_end-end.result in
    let first = begun ++ take end part in
    let left = c.if-end-gt0.begun.items in
    let counted : c.if-end-gt0.follower.next.line + length left
    ≤ c.args.follower.next.line + length first = elim c.if-end-gt0.branch [
      | then-end-gt0+in_ok-map_err+in_ok-follower w ↦
          let grown : w.extend_from_slice.new.self.items ≡ first = grind (arith, common_steps) in
          let cleared : w.clear.new.self.items ≡ [] = grind (arith, common_steps) in
          omega (
            arith,
            w.in_ok-follower.ensures.counted,
            ap length (w.deref.ensures.value ∙ grown),
            ap (λ b. length b.items) w.begun-is,
            ap length cleared,
            ap (λ (u : FollowerView). u.next.line) w.follower-is,
          )
      | else-end-gt0 w ↦ omega (
        arith,
        length-append begun (take end part),
        ap (λ b. length b.items) w.begun-is,
        ap (λ (u : FollowerView). u.next.line) w.follower-is,
      )
    ] in
    let grown : c.extend_from_slice-2.new.self.items ≡ left ++ drop end part =
    grind (arith, common_steps, take-rest end part) in
    omega (
      arith,
      counted,
      ap length grown,
      length-append left (drop end part),
      ap length (take-append_drop begun part end),
      length-append first (drop end part),
    )
