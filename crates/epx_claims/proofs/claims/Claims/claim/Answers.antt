use Rattle.std.proofs.Common.{◌∙◌, ap, map, arith}
use Rattle.epx_claims.specs.inner.Rule.{with_piece, at_end}
use Rattle.epx_claims.specs.inner.SeatFields.{drawn_of}
use Rattle.epx_claims.proofs.DrawLemmas.{Allows-draw}
use Rattle.epx_claims.proofs.SeatLemmas.{seat_view-claims, seat_state-own, StateStep-same}
use Rattle.epx_claims.proofs.SeatLemmas.{All-step_below}
use Rattle.epx_claims.proofs.claims.Claims.claim.Goals as goal

pub fetch_add-found-requires : goal.fetch_add-found-requires
fetch_add-found-requires c =
    let own = seat_view-claims c.seat.inside c.self.inside _ _ c.seat.view_is c.requires
    c.self.view_is in
    let ready = c.self.invariant in (
      ap (λ k. k.table) own,
      omega arith,
      Allows-draw c.self.inside.table.shared.key (omega arith) (omega arith) _ _
          c.seat.inside.seat.me _ c.seat.invariant.shown c.if-seat.false,
    )

pub returns-then-found-self-clause-some : goal.returns-then-found-self-clause-some
returns-then-found-self-clause-some c =
    let own = seat_view-claims c.seat.inside c.self.inside _ _ c.seat.view_is c.requires
    c.self.view_is in
    let pieces = ap (λ k. k.pieces) own in
    let draw_ensures = c.fetch_add-found.ensures in
    let is = draw_ensures.2.1.1 (omega arith) in
    let longer = ap (λ v. drawn_of v.seat_states) is
    ∙ ap (λ hs. drawn_of (map (with_piece c.fetch_add-found.result) hs))
    c.seat.invariant.shown in
    rw (← c.seat.view_is, ← c.self.view_is) (
      c.if-seat.false,
      c.if-found-self.true,
      All-step_below _ _ _ _ _ _ _ c.seat.invariant.shown draw_ensures.2.1.0,
      (λ i. record {
        claims = record {
          table = draw_ensures.0 i;
          pieces = (is i).terms.pieces;
          workers = (is i).terms.workers;
        };
        drawn = longer i;
        share = c.seat.inside.share;
        ended = c.seat.inside.ended;
      }),
    )

pub invariant_of-seat : goal.invariant_of-seat
invariant_of-seat c =
    let own = seat_view-claims c.seat.inside c.self.inside _ _ c.seat.view_is c.requires
    c.self.view_is in
    let pieces = ap (λ k. k.pieces) own in
    let draw_ensures = c.fetch_add-found.ensures in
    let is = draw_ensures.2.1.1 (omega arith) in
    record {
      shown = seat_state-own _ _ _ _ (ap (λ v. v.seat_states) is
          ∙ ap (map (with_piece c.fetch_add-found.result)) c.seat.invariant.shown);
      no_slot = draw_ensures.2.0 ∙ c.seat.invariant.no_slot;
    }

pub invariant_of-seat-else-found-self : goal.invariant_of-seat-else-found-self
invariant_of-seat-else-found-self c =
    let own = seat_view-claims c.seat.inside c.self.inside _ _ c.seat.view_is c.requires
    c.self.view_is in
    let pieces = ap (λ k. k.pieces) own in
    let draw_ensures = c.fetch_add-found.ensures in
    let is = draw_ensures.2.1.2 (omega arith) in
    record {
      shown = seat_state-own _ _ _ _
          (ap (λ v. v.seat_states) is ∙ ap (map at_end) c.seat.invariant.shown);
      no_slot = draw_ensures.2.0 ∙ c.seat.invariant.no_slot;
    }

pub returns-then-found-self-clause-piece : goal.returns-then-found-self-clause-piece
returns-then-found-self-clause-piece c =
    let own = seat_view-claims c.seat.inside c.self.inside _ _ c.seat.view_is c.requires
    c.self.view_is in
    let pieces = ap (λ k. k.pieces) own in
    let draw_ensures = c.fetch_add-found.ensures in
    let is = draw_ensures.2.1.1 (omega arith) in
    let after = seat_state-own _ _ _ _
    (ap (λ v. v.seat_states) is ∙ ap (map (with_piece c.fetch_add-found.result))
    c.seat.invariant.shown) in
    rw (← c.seat.view_is, ← c.self.view_is)
    (StateStep-same _ _ _ _ _ _ _ _ _ _ pieces (ap (λ k. k.workers) own) c.seat.invariant.shown
    after
    draw_ensures.2.1.0)

pub returns-else-found-self-clause-stop : goal.returns-else-found-self-clause-stop
returns-else-found-self-clause-stop c =
    let own = seat_view-claims c.seat.inside c.self.inside _ _ c.seat.view_is c.requires
    c.self.view_is in
    let pieces = ap (λ k. k.pieces) own in
    let draw_ensures = c.fetch_add-found.ensures in
    let full = c.if-found-self.false in
    let is = draw_ensures.2.1.2 (omega arith) in
    let after = seat_state-own _ _ _ _
    (ap (λ v. v.seat_states) is ∙ ap (map at_end) c.seat.invariant.shown) in
    rw (← c.seat.view_is, ← c.self.view_is)
    (λ not_ended. (
      c.fetch_add-found.result,
      omega arith,
      StateStep-same _ _ _ _ _ _ _ _ _ _ pieces (ap (λ k. k.workers) own) c.seat.invariant.shown
          after
          draw_ensures.2.1.0,
    ))
