-- Pending instances that wait, each filed under one Id.
use Rattle.std.specs.Prelude.{◌≡◌, List, [], ◌∷◌, ◌++◌, map, length, Contains, Vec}
use Rattle.std.specs.BTreeMap.{BTreeMap, get}
use Rattle.std.specs.BTreeSet.{BTreeSet, IsOrdered}
use Rattle.std.specs.Option.{MatchOption}
use Rattle.epx_types.specs.declared.id.Id.{Id}
use Rattle.epx_types.specs.Ids.{id_cmp}

-- pairs of an instance and the Id under which it is filed
abbrev pub Filings : Type 0
Filings = List (Id × Id)

-- x is filed under some Id
abbrev pub IsFiled : Filings → Id → Type 0
IsFiled filings x = Contains (map (λ f. f.0) filings) x

-- the way from x to y through the Ids of `via`: each is filed under the next
abbrev pub IsWay : Filings → Id → List Id → Id → Type 0
IsWay filings x [] y = Contains filings (x, y)
IsWay filings x (z ∷ via) y = Contains filings (x, z) × IsWay filings z via y

-- x waits behind y
abbrev pub IsBehind : Filings → Id → Id → Type 0
IsBehind filings x y = (via : List Id) × IsWay filings x via y

-- x waits behind y, which is not filed
pub record IsBlockedBy (filings : Filings) (x y : Id) : Type 0 where
  pub behind : IsBehind filings x y
  pub last : ¬ IsFiled filings y

-- each instance is filed once, and waits behind one that is not filed
pub record AreFilings (filings : Filings) : Type 0 where
  pub once : (x y z : Id) → Contains filings (x, y) → Contains filings (x, z) → y ≡ z
  pub blocked : (x : Id) → IsFiled filings x → (y : Id) × IsBlockedBy filings x y

-- a map has x in its list for the Id y
abbrev pub IsListed : {Z : Type 0} → BTreeMap Id (Vec Id Z) → Id → Id → Type 0
IsListed children x y = MatchOption (get id_cmp children y) ⊥ (λ v. Contains v.items x)

-- what is filed under an Id is in its list
abbrev pub AreListedUnder : {Z : Type 0} → Filings → BTreeMap Id (Vec Id Z) → Type 0
AreListedUnder filings children = (x y : Id) → Contains filings (x, y) → IsListed children x y

-- a search keeps what it found in a set too, each once
pub record AreSeen (seen : BTreeSet Id) (found : List Id) : Type 0 where
  pub order : IsOrdered id_cmp seen
  pub same : (x : Id) → Contains seen.keys x → Contains found x
  pub count : length found ≡ length seen.keys

-- Ids with P are appended, so that all with P are in the list
pub record AreAppended (P : Id → Type 0) (old new : List Id) : Type 0 where
  pub more : List Id
  pub appended : new ≡ old ++ more
  pub only : (x : Id) → Contains more x → P x
  pub whole : (x : Id) → P x → Contains new x
