use Rattle.std.proofs.Common.{◌∙◌, ◌++◌, ap, arith, rules}
use Rattle.epx_claims.proofs.StepLemmas.{Allows-join}
use Rattle.epx_claims.proofs.SeatMoveLemmas.{Joins-seat}
use Rattle.epx_claims.proofs.SeatLemmas.{seat_view-claims, occurrences-step}
use Rattle.epx_claims.proofs.claims.Claims.join.Goals as goal

pub join_seat-requires : goal.join_seat-requires
join_seat-requires c =
    let own = seat_view-claims c.seat.inside c.self.inside _ _ c.seat.view_is c.requires.own
    c.self.view_is in
    let theirs = seat_view-claims c.other.inside c.self.inside _ _ c.other.view_is c.requires.other
    c.self.view_is in
    let ready = c.self.invariant in (
      ap (λ k. k.table) own,
      ap (λ k. k.table) theirs,
      c.other.invariant.no_slot,
      omega arith,
      Joins-seat c.self.inside.table.shared.key _ _ _ _ _ c.seat.invariant.shown,
    )

pub load-requires : goal.load-requires
load-requires c =
    let ready = c.self.invariant in
    let is = ap (λ m. m.0.seat_states) c.join_seat.ensures.2
    ∙ (λ i. c.seat.invariant.shown i ++ c.other.invariant.shown i) in (
      search rules,
      omega arith,
      Allows-join c.self.inside.table.shared.key _ _ c.join_seat.new.seat.me _ _ is,
    )

pub returns-clause-apart : goal.returns-clause-apart
returns-clause-apart c =
    let own = seat_view-claims c.seat.inside c.self.inside _ _ c.seat.view_is c.requires.own
    c.self.view_is in
    let is = ap (λ m. m.0.seat_states) c.join_seat.ensures.2
    ∙ (λ i. c.seat.invariant.shown i ++ c.other.invariant.shown i) in
    let pieces = ap (λ m. m.0.terms.pieces) c.join_seat.ensures.2 ∙ ap (λ k. k.pieces) own in
    rw (← c.seat.view_is, ← c.other.view_is, ← c.self.view_is)
    (occurrences-step _ _ _ _ _ _ _ _ _ is pieces c.load.ensures.2.1.0)
