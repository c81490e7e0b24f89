use Rattle.std.proofs.Common.{◌≡◌, ◌++◌, ℕ, ℤ, List, Bor, Contains, length, map, flat_map, refl}
use Rattle.std.proofs.Common.{sym, ap, ◌∙◌, subst}
use Rattle.epx_types.proofs.Common.{All, Instance, length-map}
use Rattle.epx_types.specs.declared.id.Id.{Id}
use Rattle.epx_types.specs.declared.key.Key.{Key}
use Rattle.std.specs.FinMap as contents
use Rattle.std.proofs.lemmas.List.Elements.{All-map}
use Rattle.epx_report.specs.ReportLines.{store_line}
use Rattle.epx_state.specs.declared.forms.StateCounts.{StateCounts}
use Rattle.epx_state.specs.StateForms.{StateParts, state_counts, entry_line}
use Rattle.epx_state.specs.States.{HoldsState}
use Rattle.epx_state.specs.inner.WrittenLines.{AreReadCounts, IsReadEntry, IsReadPair}
use Rattle.epx_state.proofs.StateTextLemmas.{EachIsRead, text_of_state-written, HoldsState-written}
use Rattle.epx_state.proofs.write.state_text.Goals as goal

pub returns : goal.returns
returns c =
    let v = c.args.executor.now in
    let runs = c.runs-runs.result.now in
    let p : StateParts =
    record { runs = runs; waiting = v.pending; stored = contents.entries v.store } in
    let now : Bor Instance → Instance = λ e. e.now in
    let pair : Bor Key × ℤ → List ℕ × ℤ = λ s. (s.0.now, s.1) in
    let entries = c.in_ok-waiting.waiting.items in
    let pairs = c.in_ok-stored.stored.items in
    let waiting : map now entries ≡ p.waiting = c.in_ok-waiting.ensures.pending in
    let stored : map pair pairs ≡ p.stored =
    c.in_ok-stored.ensures ∙ ap contents.entries c.store.ensures in
    let holds : HoldsState p v = record {
      done = λ x. (
        λ h. (c.runs-runs.ensures.members x).0
            (subst (λ (ids : List Id). Contains ids x) (sym c.done.ensures) h),
        λ h. subst (λ (ids : List Id). Contains ids x) c.done.ensures
            ((c.runs-runs.ensures.members x).1 h),
      );
      pending = refl;
      store = refl;
    } in
    let counts : StateCounts =
    record { runs = length runs; waiting = c.len.result; stored = c.len-2.result } in
    let many : c.len.result ≡ length p.waiting =
    c.len.ensures ∙ sym c.deref.ensures.len ∙ ap length c.deref.ensures.value
    ∙ sym (length-map entries now) ∙ ap length waiting in
    let keys : c.len-2.result ≡ length p.stored =
    c.len-2.ensures ∙ sym c.deref-2.ensures.len ∙ ap length c.deref-2.ensures.value
    ∙ sym (length-map pairs pair) ∙ ap length stored in
    let counted : counts ≡ state_counts p =
    λ i. record { runs = length runs; waiting = many i; stored = keys i } in
    let read : EachIsRead p = record {
      counts = subst AreReadCounts counted c.in_ok-append_counts.ensures.read;
      runs = c.in_ok-append_runs.ensures.read;
      waiting = subst (All IsReadEntry) waiting (All-map IsReadEntry now entries
          (subst (All (λ (e : Bor Instance). IsReadEntry e.now)) c.deref.ensures.value
          c.in_ok-append_entries.ensures.read));
      stored = subst (All IsReadPair) stored (All-map IsReadPair pair pairs
          (subst (All (λ (s : Bor Key × ℤ). IsReadPair (s.0.now, s.1))) c.deref-2.ensures.value
          c.pairs_are_read.ensures));
    } in
    HoldsState-written p v c.append_pairs.new.text.items holds c.in_ok-waiting.ensures.settled
    c.runs-runs.ensures.runs read
    (text_of_state-written p counts c.new-text.result.items c.append_counts.new.text.items
    c.append_runs.new.text.items c.append_entries.new.text.items c.append_pairs.new.text.items
    c.new-text.ensures.items counted c.in_ok-append_counts.ensures.text
    c.in_ok-append_runs.ensures.text
    (c.in_ok-append_entries.ensures.text
    ∙ ap (λ (es : List Instance). c.append_runs.new.text.items ++ flat_map entry_line es)
    (ap (map now) c.deref.ensures.value ∙ waiting))
    (c.in_ok-append_pairs.ensures
    ∙ ap (λ es. c.append_entries.new.text.items ++ flat_map store_line es)
    (ap (map pair) c.deref-3.ensures.value ∙ stored)))
