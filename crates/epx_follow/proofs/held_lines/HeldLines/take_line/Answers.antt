use Rattle.std.proofs.lemmas.Result.{IfErr-weaker, IfOk-weaker}
use Rattle.epx_follow.proofs.OpenBatchLemmas.{IsReadOf-result}
use Rattle.epx_follow.proofs.held_lines.HeldLines.take_line.Goals as goal

pub returns-clause-taken : goal.returns-clause-taken
returns-clause-taken c =
    let line = c.args.line.now in
    let is =
    IsReadOf-result line c.read-read.result c.read-read.ensures.ok c.read-read.ensures.bad in
    IfOk-weaker c.take_read.result _ _ (λ done h. h line is) c.take_read.ensures.taken

pub returns-clause-refused : goal.returns-clause-refused
returns-clause-refused c =
    let line = c.args.line.now in
    let is =
    IsReadOf-result line c.read-read.result c.read-read.ensures.ok c.read-read.ensures.bad in
    IfErr-weaker c.take_read.result _ _ (λ fault h. h line is) c.take_read.ensures.refused
