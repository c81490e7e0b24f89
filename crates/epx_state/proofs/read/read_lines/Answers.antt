use Rattle.std.proofs.Common.{◌≡◌, ◌∙◌, inl, inr, true, false, Bool, List, None, Some, length, ap}
use Rattle.std.proofs.Common.{subst, arith, rules, ℕ}
use Rattle.epx_types.proofs.Common.{nat_tests, nil_from_length}
use Rattle.epx_lines.specs.Lines.{lines_of}
use Rattle.epx_report.specs.inner.Progress.{some_if}
use Rattle.epx_state.specs.inner.StateProgress.{IsReadTo, past_line, is_whole_state}
use Rattle.epx_state.proofs.ReadingLemmas.{read_to-next, StateEndsEarly-not_whole}
use Rattle.epx_state.proofs.ReadingLemmas.{IsState-read, IsFirstNotGood-stops}
use Rattle.epx_state.proofs.read.read_lines.Goals as goal

pub returns-then-not-branch-clause-refused : goal.returns-then-not-branch-clause-refused
returns-then-not-branch-clause-refused c =
    let refused : c.in_ok-take_line.field-0 ≡ false = search rules in
    let stopped : past_line c.loop-rest.progress c.cut_line.result.0.now ≡ None =
    c.in_ok-take_line.ensures ∙ ap (λ (b : Bool). some_if b c.take_line.new.self) refused in
    inl (IsFirstNotGood-stops (lines_of c.args.bytes.now) (lines_of c.cut_line.result.1.now)
    c.cut_line.result.0.now c.loop-rest.line c.loop-rest.progress
    (subst (λ (next : List (List ℕ)). IsReadTo (lines_of c.args.bytes.now) next c.loop-rest.line
    c.loop-rest.progress) c.cut_line.ensures.lines c.loop-rest.invariant.read) stopped)

pub loop-rest-preserved : goal.loop-rest-preserved
loop-rest-preserved c =
    let taken : c.in_ok-take_line.field-0 ≡ true = search rules in
    let goes : past_line c.loop-rest.progress c.cut_line.result.0.now ≡ Some c.take_line.new.self =
    c.in_ok-take_line.ensures ∙ ap (λ (b : Bool). some_if b c.take_line.new.self) taken in
    record {
      read = read_to-next (lines_of c.args.bytes.now) (lines_of c.cut_line.result.1.now)
          c.cut_line.result.0.now c.loop-rest.line c.loop-rest.progress
          (subst (λ (next : List (List ℕ)). IsReadTo (lines_of c.args.bytes.now) next
          c.loop-rest.line c.loop-rest.progress) c.cut_line.ensures.lines
          c.loop-rest.invariant.read) c.take_line.new.self goes;
      counted = omega (arith, c.cut_line.ensures.rest, c.loop-rest.invariant.counted);
    }

pub returns-then-not-is_whole_state-clause-refused :
    goal.returns-then-not-is_whole_state-clause-refused
returns-then-not-is_whole_state-clause-refused c =
    let over : length c.loop-rest.rest.now ≡ 0 = grind (arith, nat_tests) in
    let early : is_whole_state c.loop-rest.progress ≡ false = cc in
    inr (inl (StateEndsEarly-not_whole c.args.bytes.now c.loop-rest.line c.loop-rest.progress
    (subst (λ (rest : List ℕ). IsReadTo (lines_of c.args.bytes.now) (lines_of rest)
    c.loop-rest.line c.loop-rest.progress) (nil_from_length c.loop-rest.rest.now over)
    c.loop-rest.invariant.read) early))

pub returns-clause-state : goal.returns-clause-state
returns-clause-state c =
    let over : length c.loop-rest.rest.now ≡ 0 = grind (arith, nat_tests) in
    let complete : is_whole_state c.loop-rest.progress ≡ true = cc in
    IsState-read c.args.bytes.now c.loop-rest.line c.loop-rest.progress
    (subst (λ (rest : List ℕ). IsReadTo (lines_of c.args.bytes.now) (lines_of rest)
    c.loop-rest.line c.loop-rest.progress) (nil_from_length c.loop-rest.rest.now over)
    c.loop-rest.invariant.read) complete
