use Rattle.epx_claims.proofs.seats.+split_off.Given as goal

abbrev pub decreases-split_off : goal.decreases-split_off
decreases-split_off l = l.seat.now.share
