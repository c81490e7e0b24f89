-- The end of the input.
use Rattle.std.proofs.Common.{◌≡◌, ◌++◌, ℕ, List, [], Option, inr}
use Rattle.epx_types.specs.declared.fault.Fault.{Fault}
use Rattle.epx_types.specs.declared.fault.Fault.TheVariants.{Write}
use Rattle.epx_devices.specs.Transfers.{AppendsPrefix}
use Rattle.epx_follow.specs.Following.{FollowerView}
use Rattle.epx_follow.specs.FollowingStops.{StopsAtEnd}
use Rattle.epx_follow.specs.InputEnds.{EndsInput, IsRest}
use Rattle.epx_follow.specs.LinesTaken.{EndsIf}

pub EndsInput-from_rest : (v last : FollowerView) (batch rest text : List ℕ)
    → EndsIf v.is_open v last batch → IsRest last rest → text ≡ batch ++ rest
    → EndsInput v last text
EndsInput-from_rest v last batch rest text ended left is = record {
  batch = batch;
  rest = rest;
  ended = ended;
  left = left;
  printed = is;
}

-- the text is not all written
pub StopsAtEnd-unwritten : (was now : Option (List ℕ)) (v last : FollowerView) (text : List ℕ)
    (fault : Fault) → EndsInput v last text → fault ≡ Write → AppendsPrefix was now text
    → StopsAtEnd v fault [] was now
StopsAtEnd-unwritten was now v last text fault ends is h = inr (is, (last, text, ends, (h.0, h.2)))
