use Rattle.std.proofs.Common.{sym}
use Rattle.epx_committed.proofs.LedgerCloseLemmas.{IsLeastDisagreement-first}
use Rattle.epx_committed.proofs.LedgerCloseLemmas.{IsLeastDisagreement-none}
use Rattle.epx_committed.proofs.ledger.least_of.Goals as goal

pub returns-in-Some : goal.returns-in-Some
returns-in-Some c = IsLeastDisagreement-first c.args.disagreements.entries
    c.sort_unstable_keys.new.self.entries (c.in-Some.id.now, c.in-Some.disagreement.now)
    (sym c.in-Some.ensures.entry) c.in_ok-sort_unstable_keys.ensures.reordered.0
    c.in_ok-sort_unstable_keys.ensures.sorted

pub returns : goal.returns
returns c = IsLeastDisagreement-none c.args.disagreements.entries
    c.sort_unstable_keys.new.self.entries (sym c.in-None.ensures.entry)
    c.in_ok-sort_unstable_keys.ensures.reordered.0
