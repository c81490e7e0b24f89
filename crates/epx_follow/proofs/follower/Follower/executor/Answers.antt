use Rattle.std.proofs.Common.{◌∙◌, List, ap, sym}
use Rattle.epx_types.proofs.Common.{Instance}
use Rattle.epx_follow.specs.FollowerLaws.{executor_of}
use Rattle.epx_follow.specs.inner.FirstPlaces.{place_in}
use Rattle.epx_follow.proofs.BatchEndLemmas.{instances-pending}
use Rattle.epx_follow.proofs.follower.Follower.executor.Goals as goal

pub returns : goal.returns
returns c =
    let f = c.self.inside in
    ap (λ (m : List Instance). record {
      done = f.executor.done;
      store = f.executor.store;
      pending = m;
    }) (sym (instances-pending (place_in f.held.places) f.executor.pending))
    ∙ ap executor_of c.self.view_is
