-- Values at the front of a line's tokens.
use Rattle.std.specs.Prelude.{◌≡◌, ℕ, ◌^◌, ◌≤◌, List, [], ◌∷◌, true, codes, Option, Some, IfSome}
use Rattle.std.specs.Prelude.{option_map}
use Rattle.std.specs.Str.Parse.{IsNumeral, digits_value}
use Rattle.json.specs.Token.{Token}
use Rattle.json.specs.Json.{value}
use Rattle.serde_json.specs.Data.{Data, Members, object, put}
use Rattle.serde_json.specs.Find.{get}
use Rattle.serde_json.specs.Read.{of_json, converted}
use Rattle.epx_types.specs.SmallLists.{items_of}
use Rattle.epx_lines.specs.declared.from_tokens.Parts.{Parts}
use Rattle.epx_lines.specs.Elements.{whole, each_of_at_most}
use Rattle.epx_lines.specs.DependencyList.{id_of}
use Rattle.epx_lines.specs.OperationList.{ops_of}
use Rattle.epx_lines.specs.Meaning.{at_member, is_committed}

-- the text is one or more decimal digits and nothing else, and they write n
abbrev pub AreDigitsOf : List ℕ → ℕ → Type 0
AreDigitsOf text n = IsNumeral 10 text × (digits_value 10 text ≡ n)

-- the tokens begin with the value d, whose arrays and objects nest at most n levels deep, and
-- `rest` follows
abbrev pub ReadsValue : ℕ → List Token → Data → List Token → Type 0
ReadsValue n ts d rest = (depth : ℕ) → n ≤ depth
    → converted of_json (value depth ts) ≡ Some (d, rest)

-- the tokens begin with a value that nests at most n levels deep and for which f returns x, and
-- `rest` follows
abbrev pub ParsesTo : {A : Type 0} → ℕ → (Data → Option A) → List Token → A → List Token → Type 0
ParsesTo n f ts x rest = (d : Data) × ReadsValue n ts d rest × (f d ≡ Some x)

-- the tokens begin with the values ds, one after another, each nested at most n levels deep, and
-- `rest` follows
abbrev pub ReadsValues : ℕ → List Token → List Data → List Token → Type 0
ReadsValues n ts [] rest = ts ≡ rest
ReadsValues n ts (d ∷ ds) rest = (mid : List Token) × ReadsValue n ts d mid
    × ReadsValues n mid ds rest

-- the tokens begin with values, each nested at most n levels deep, `rest` follows, and f returns x
-- for the list of these values
abbrev pub ParsesAllTo : {A : Type 0} → ℕ → (List Data → Option A) → List Token → A → List Token
    → Type 0
ParsesAllTo n f ts x rest = (ds : List Data) × ReadsValues n ts ds rest × (f ds ≡ Some x)

-- if the part is known, it is f of the object's member
abbrev pub IsMember : {A : Type 0} → List ℕ → (Data → Option A) → Members → Option A → Type 0
IsMember name f ms part = IfSome part (λ x. at_member name f (object ms) ≡ Some x)

-- the known parts are those of the object, and by its status the instance is committed
pub record HoldsParts (ms : Members) (p : Parts) : Type 0 where
  pub replica : IsMember (codes "r") (whole 256) ms p.replica
  pub number : IsMember (codes "i") (whole (2 ^ 64)) ms p.number
  pub seq : IsMember (codes "seq") (whole (2 ^ 64)) ms p.seq
  pub named : IsMember (codes "deps") (each_of_at_most 256 id_of) ms
      (option_map items_of p.named)
  pub ops : IsMember (codes "ops") ops_of ms (option_map items_of p.ops)
  pub status : is_committed (get (codes "status") (object ms)) ≡ Some true

-- the tokens begin with a value, and `rest` follows; if the old parts are those of an object, the
-- new ones are those of the object with this value under the name
abbrev pub AddsMember : List ℕ → List Token → List Token → Parts → Parts → Type 0
AddsMember name ts rest old new = (d : Data) × ReadsValue 2 ts d rest
    × ((ms : Members) → HoldsParts ms old → HoldsParts (put name d ms) new)
