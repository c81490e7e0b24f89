use Rattle.std.proofs.Common.{◌≡◌, ◌++◌, ◌∷◌, [], arith, rules, ap}
use Rattle.epx_claims.proofs.SeatListLemmas.{AreFresh-push, AreFresh-others, shares-last}
use Rattle.epx_claims.proofs.seats.+split_off.Goals as goal

pub returns-clause-fresh : goal.returns-clause-fresh
returns-clause-fresh t c = λ fresh.
    let claims = c.args.claims.now in
    let one = c.in_ok-split_off.ensures.fresh fresh in
    let others = AreFresh-others claims _ _ one in
    let two = c.in_ok-split_off-2.ensures.fresh others in
    let pushed : c.push.new.self.items
    ≡ c.split_off-2.new.others.items ++ c.split_off-2.new.seat ∷ [] =
    search (rules, c.push.ensures.items) in
    AreFresh-push claims _ _ _ _ _ one two pushed

pub returns-clause-shares : goal.returns-clause-shares
returns-clause-shares t c =
    let one = c.in_ok-split_off.ensures.shares in
    let two = c.in_ok-split_off-2.ensures.shares in
    let kept = ap (λ s. s.share) c.split-other.ensures.kept in
    let given = ap (λ s. s.share) c.split-other.ensures.given in
    let pushed : c.push.new.self.items
    ≡ c.split_off-2.new.others.items ++ c.split_off-2.new.seat ∷ [] =
    search (rules, c.push.ensures.items) in
    let share = shares-last c.split_off-2.new.seat c.split_off-2.new.others.items
    c.push.new.self.items pushed in
    omega (arith, one, two, kept, given, share)
