-- Outputs that are unchanged.
use Rattle.std.proofs.Common.{◌≡◌, ℕ, List, Option, subst}
use Rattle.epx_types.proofs.Common.{Keeps}
use Rattle.epx_tool.proofs.ReturnedFaultLemmas.{Keeps-refl}

-- an unchanged output has the contents that it had
pub Keeps-contents : {S : Type 0} (contents : S → Option (List ℕ)) (before after : S)
    → after ≡ before
    → Keeps (contents before) (contents after)
Keeps-contents contents before after same =
    subst (λ output. Keeps (contents output) (contents after)) same
    (Keeps-refl (contents after))
