use Rattle.epx_laws.proofs.ComponentCountLemmas.{leaders_of, length-leaders_of, AllPairs-leaders_of}
use Rattle.epx_laws.proofs.ComponentCountLemmas.{leaders_of-lead, Contains-leaders_of}
use Rattle.epx_laws.proofs.order.components_are_counted.Goals as goal

pub returns : goal.returns
returns c = λ m order h. (
  leaders_of order,
  record {
    once = AllPairs-leaders_of m order h;
    lead = leaders_of-lead m order h;
    whole = Contains-leaders_of m order h;
    counted = length-leaders_of order;
  },
)
