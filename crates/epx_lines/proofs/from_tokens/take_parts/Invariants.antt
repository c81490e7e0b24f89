use Rattle.std.proofs.Common.{length}
use Rattle.serde_json.specs.Data.{no_members}
use Rattle.epx_lines.specs.between.Tokens.{HoldsParts}
use Rattle.epx_lines.proofs.TokenValueLemmas.{HasReadMembers, put_members}
use Rattle.epx_lines.proofs.from_tokens.take_parts.Given as goal

abbrev pub invariant-loop-parts : goal.invariant-loop-parts
invariant-loop-parts l = HasReadMembers 2 l.initial.reader
    (λ ms. HoldsParts (put_members ms no_members) l.parts) l.reader

abbrev pub decreases-loop-parts : goal.decreases-loop-parts
decreases-loop-parts l = length l.reader
