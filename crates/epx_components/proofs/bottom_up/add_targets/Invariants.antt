use Rattle.std.proofs.Common.{◌↔◌, ◌⊎◌, ℕ, get_or}
use Rattle.epx_components.specs.between.Collections.{LeadsOut}
use Rattle.epx_components.proofs.bottom_up.add_targets.Given as goal

abbrev pub invariant-loop-target : goal.invariant-loop-target
invariant-loop-target g l = (t : ℕ) → g.C.Collector.has t l.value
    ↔ (g.C.Collector.has t (get_or l.values l.own g.C.Collector.none)
    ⊎ LeadsOut l.component l.own l.targets l.target-index
    (λ c. g.C.Collector.gives l.collector c (get_or l.values c g.C.Collector.none) t))
