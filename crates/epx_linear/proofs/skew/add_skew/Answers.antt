use Rattle.std.proofs.Common.{◌∙◌, ℕ, List, Option, get_or, set, sym, ap, arith}
use Rattle.std.proofs.lemmas.List.Edits.{map_over_more}
use Rattle.epx_linear.specs.declared.client_call.ClientCall.{ClientCall}
use Rattle.epx_linear.specs.Skews.{later_by}
use Rattle.epx_linear.proofs.skew.add_skew.Goals as goal

pub loop-call-preserved : goal.loop-call-preserved
loop-call-preserved c =
    let skew = c.args.skew in
    let h : List ClientCall = c.args.calls.now.items in
    let calls : List ClientCall = c.loop-call.call-items in
    let i = c.loop-call.call-index in
    let call : ClientCall = c.call-item.result in
    let read : ClientCall = get_or calls i call in
    ap (λ (r : Option ℕ). set calls i (record {
      id = read.id;
      invoked = read.invoked;
      returned = r;
      answer = read.answer;
    })) c.later-call.ensures ∙ ap (λ x. set calls i (later_by skew x)) (sym c.call-item.is)
    ∙ map_over_more (later_by skew) h calls i call
    (omega (arith, c.loop-call-test.true, c.deref_mut-call-items.ensures.len))
    c.loop-call.invariant c.call-item.is
