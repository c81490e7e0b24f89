use Rattle.std.proofs.Common.{◌≡◌, ◌-◌, ◌<◌, ◌++◌, length, take, drop, arith, get_or, sym, refl}
use Rattle.std.proofs.Common.{◌∙◌, ap}
use Rattle.epx_types.proofs.Common.{with_items_is, get_or_read}
use Rattle.std.proofs.lemmas.List.{take_rest}
use Rattle.epx_components.proofs.CloseLemmas.{Closes-group}
use Rattle.epx_components.proofs.search.Search.finish.Goals as goal

pub returns : goal.returns
returns c =
    let s = c.args.self.now in
    let start = c.index-start.result.now in
    let some : 0 < length s.starts.items = omega (arith, s.starts.ok.0, c.requires.some) in
    let last : c.len.result - 1 ≡ length s.starts.items - 1 =
    omega (arith, s.starts.ok.0, c.len.ensures) in
    let placed : length c.close_nodes.new.visits ≡ s.visits.len =
    c.close_nodes.auto.visits ∙ (ap length c.deref_mut.ensures.value ∙ sym s.visits.ok.0) in
    let visits = with_items_is s.visits c.close_nodes.new.visits placed in
    let group : take (length c.deref-2.result.now - start) (drop start c.deref-2.result.now)
    ≡ drop start s.opened.items = take_rest _ start
    ∙ ap (drop start) c.deref-2.ensures.value in
    let listed : take (length c.deref.result.now - start) (drop start c.deref.result.now)
    ≡ drop start s.opened.items = take_rest _ start ∙ ap (drop start) c.deref.ensures.value in
    let order : c.extend_from_slice.new.self.items ≡ s.order.items ++ drop start s.opened.items =
    c.in_ok-extend_from_slice.ensures.items ∙ ap (λ xs. s.order.items ++ xs) listed in
    let starts : c.pop.new.self.items ≡ take (length s.starts.items - 1) s.starts.items =
    c.pop.ensures.rest ∙ ap (λ n. take (n - 1) s.starts.items) s.starts.ok.0 in
    record {
      start = start;
      last = (
        some,
        sym (get_or_read s.starts.items _ _ (omega (arith, last)) c.index-start.ensures 0
            ∙ ap (λ i. get_or s.starts.items i 0) last),
      );
      closes = rw visits (Closes-group s.visits.items c.close_nodes.new.visits s.opened.items start
          s.count c.requires.row
          (rw group at c.close_nodes.ensures.closed)
          (rw (group, c.deref_mut.ensures.value) at c.close_nodes.ensures.others));
      all_visits = rw visits (placed ∙ s.visits.ok.0);
      same = rw (c.truncate.ensures.items, order, starts) refl;
    }
