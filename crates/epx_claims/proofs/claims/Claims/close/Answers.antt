use Rattle.std.proofs.Common.{◌∙◌, ap, sym}
use Rattle.epx_claims.proofs.CloseLemmas.{IsAllDrawn-at_close}
use Rattle.epx_claims.proofs.claims.Claims.close.Goals as goal

pub returns : goal.returns
returns c =
    let every = ap (λ s. s.share) c.seat.view_is ∙ c.requires.share
    ∙ sym (ap (λ s. s.workers) c.self.view_is) in
    let all =
    IsAllDrawn-at_close c.self.inside.table.shared.key _ _ _ _ _ _ _ _ c.seat.invariant.shown every
    c.word-word.ensures c.self.invariant.pieces c.min.ensures
    c.close_with-closed.ensures.values.2 in
    rw (← c.seat.view_is, ← c.self.view_is)
    (record {
      length = all.length;
      each_once = all.each_once;
      all = all.all;
      claim_state = all.claim_state;
    })
