use Rattle.std.proofs.Common.{◌≡◌, false, All, map, take, IfSome}
use Rattle.epx_types.proofs.Common.{string_bytes}
use Rattle.epx_program.specs.SourcesAt.{AreSourcesAt, model_at}
use Rattle.epx_program.proofs.inputs.sources_at.Given as goal

-- the sources of the paths so far, none of which has failed, and the input that is left
abbrev pub invariant-loop-path : goal.invariant-loop-path
invariant-loop-path g l =
    let D = model_at g.O.Opener.model g.O.Opened.Source.model g.I.Source.model in record {
      at : AreSourcesAt l.fn.opener l.fn.input l.input
          (map string_bytes (take l.path-index l.paths)) l.sources.items;
      failed : All (λ s. D.has_failed s ≡ false) l.sources.items;
      left : IfSome l.input (λ i. g.I.Source.model.has_failed i ≡ false);
    }
