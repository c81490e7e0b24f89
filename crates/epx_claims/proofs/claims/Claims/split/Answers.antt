use Rattle.std.proofs.Common.{◌∙◌, ap, arith, rules}
use Rattle.epx_claims.proofs.StepLemmas.{Allows-split}
use Rattle.epx_claims.proofs.SeatMoveLemmas.{Splits-seat}
use Rattle.epx_claims.proofs.SeatLemmas.{seat_view-claims}
use Rattle.epx_claims.proofs.claims.Claims.split.Goals as goal

pub load-requires : goal.load-requires
load-requires c =
    let own = seat_view-claims c.seat.inside c.self.inside _ _ c.seat.view_is c.requires.own
    c.self.view_is in
    let not_ended = ap (λ s. s.ended) c.seat.view_is ∙ c.requires.open in
    let share = ap (λ s. s.share) c.seat.view_is in
    let enough = c.requires.share in
    let ready = c.self.invariant in (
      ap (λ k. k.table) own,
      omega arith,
      Allows-split c.self.inside.table.shared.key _ _ c.seat.inside.seat.me _
          c.seat.invariant.shown not_ended (omega arith),
    )

pub split_seat-given-requires : goal.split_seat-given-requires
split_seat-given-requires c =
    let own = seat_view-claims c.seat.inside c.self.inside _ _ c.seat.view_is c.requires.own
    c.self.view_is in
    let ready = c.self.invariant in (
      search rules,
      omega arith,
      Splits-seat c.self.inside.table.shared.key _ _,
    )
