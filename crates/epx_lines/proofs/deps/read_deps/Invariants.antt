use Rattle.std.proofs.Common.{◌≡◌, ◌++◌, drop, option_map}
use Rattle.serde_json.specs.View.{view}
use Rattle.epx_lines.specs.Elements.{every, each_of_at_most}
use Rattle.epx_lines.specs.DependencyList.{id_of}
use Rattle.epx_lines.proofs.deps.read_deps.Given as goal

abbrev pub invariant-loop-dep : goal.invariant-loop-dep
invariant-loop-dep l = each_of_at_most 256 id_of (view l.fn.value)
    ≡ option_map (λ more. l.named.items ++ more)
    (every (λ v. id_of (view v)) (drop l.dep-index l.dep-items))
