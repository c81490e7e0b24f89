use Rattle.std.proofs.Common.{◌≡◌, ◌∙◌, ◌++◌, ◌∷◌, [], ◌+◌, ap, map, subst, sym, length}
use Rattle.epx_types.proofs.Common.{length_push}
use Rattle.epx_linear.specs.declared.spans.Span.{Span}
use Rattle.epx_linear.specs.inner.Spans.{times_of_call, times_of_span}
use Rattle.epx_linear.proofs.SpanLemmas.{map-push_span}
use Rattle.epx_linear.proofs.CallRowLemmas.{AreNumbered, AreNumbered-push}
use Rattle.epx_linear.proofs.spans.spans_of.Goals as goal

pub loop-at-preserved : goal.loop-at-preserved
loop-at-preserved c =
    let h = c.args.history.now in
    let at = c.loop-at.at in
    let spans = c.loop-at.spans.items in
    let is = c.loop-at.invariant in
    let call = c.index-history-at.result in
    let span : Span = record {
      invoked = call.invoked;
      id = record { 0 = call.id };
      returned = call.returned;
      at = at;
    } in
    let pushed = c.in_ok-push.ensures.items in
    let longer : length c.push.new.self.items ≡ length (spans ++ span ∷ []) = ap length pushed in
    record {
      times = ap (map times_of_span) pushed
          ∙ map-push_span h at call c.loop-at-test.true spans is.times span
          (ap times_of_call c.index-history-at.is);
      places = subst (AreNumbered (λ (s : Span). s.at)) (sym pushed)
          (AreNumbered-push (λ (s : Span). s.at) spans span is.places (sym is.len));
      len = longer ∙ length_push spans span ∙ ap (λ n. n + 1) is.len;
    }
