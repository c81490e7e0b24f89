use Rattle.std.proofs.Common.{inr}
use Rattle.std.proofs.lemmas.Result.{IfErr-weaker, IfOk-weaker}
use Rattle.epx_program.specs.Calls.{paths_of}
use Rattle.epx_program.specs.PathsRead.{paths_read}
use Rattle.epx_program.specs.SourcesAt.{AreSourcesAt}
use Rattle.epx_program.proofs.do_follow.follow_paths.Goals as goal

pub returns-clause-followed : goal.returns-clause-followed
returns-clause-followed g c =
    let at = c.in-Ok.ensures.at in
    let are : AreSourcesAt c.args.opener.now c.args.input at.0
    (paths_read (paths_of c.args.paths.now)) c.deref_mut.result.now =
    rw c.deref_mut.ensures.value at.1 in
    IfOk-weaker c.follow.result _ _ (λ last h. record {
      left = at.0;
      sources = c.deref_mut.result.now;
      after = c.follow.new.sources;
      logs = h.0;
      text = h.1;
      at = are;
      delivered = h.2;
      followed = h.3;
      appended = h.4;
    }) c.follow.ensures.followed

pub returns-clause-stopped : goal.returns-clause-stopped
returns-clause-stopped g c =
    let at = c.in-Ok.ensures.at in
    let are : AreSourcesAt c.args.opener.now c.args.input at.0
    (paths_read (paths_of c.args.paths.now)) c.deref_mut.result.now =
    rw c.deref_mut.ensures.value at.1 in
    IfErr-weaker c.follow.result _ _ (λ fault h. inr (record {
      left = at.0;
      sources = c.deref_mut.result.now;
      after = c.follow.new.sources;
      at = are;
      stopped = h;
    })) c.follow.ensures.stopped
