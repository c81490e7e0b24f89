use Rattle.std.proofs.Common.{length, sym, ap, subst, ◌∙◌}
use Rattle.epx_types.proofs.Common.{IsRising, ids_of}
use Rattle.epx_committed.proofs.MergedMapLemmas.{length-instances_at, IsRising-instances_at}
use Rattle.epx_committed.proofs.merged.Merged.len.Goals as goal

pub returns-clause-len : goal.returns-clause-len
returns-clause-len c =
    c.len.ensures ∙ c.self.inside.rows.ok.0 ∙ sym
    (length-instances_at c.self.inside.lists.items c.self.inside.rows.items c.self.invariant.0)
    ∙ ap length c.self.view_is

pub returns-clause-rising : goal.returns-clause-rising
returns-clause-rising c = subst (λ m. IsRising (ids_of m)) c.self.view_is
    (IsRising-instances_at c.self.inside.lists.items c.self.inside.rows.items c.self.invariant.0)
