-- The line of an instance that lines commit differently.
use Rattle.std.proofs.Common.{◌≡◌, ◌∙◌, ◌∷◌, ◌++◌, ℕ, false, List, [], map, refl, sym, ap, codes}
use Rattle.std.proofs.Common.{append-nil}
use Rattle.epx_types.proofs.Common.{map-map, Placed}
use Rattle.epx_types.specs.declared.id.Id.{Id}
use Rattle.epx_types.specs.declared.place.Place.{Place}
use Rattle.serde_json.specs.Data.{Data, string}
use Rattle.serde_json.specs.Written.{has_float, compact_text}
use Rattle.epx_lines.proofs.FloatLemmas.{no_float-items}
use Rattle.epx_report.specs.ReportLines.{array_of, data_of_number, line_feed}
use Rattle.epx_compare.specs.ComparisonLines.{differs_data, group_data, place_data}
use Rattle.epx_compare.specs.Comparisons.{difference_text, difference_in}
use Rattle.epx_compare.specs.Differences.{lines_of_id, differing_members, groups_of}

no_float-group : (places : List Place) → has_float (group_data places) ≡ false
no_float-group places = no_float-items place_data (λ p. refl) places

pub no_float-differs : (x : Id) (members : List (List ℕ)) (groups : List (List Place))
    → has_float (array_of (differs_data x members groups)) ≡ false
no_float-differs x members groups =
    rw (no_float-items string (λ s. refl) members, no_float-items group_data no_float-group groups)

-- what is between the first part of the line and the groups, if it is known
pub differs-parts : (x : Id) (names : List Data) (members : List (List ℕ)) (groups : List Data)
    (places : List (List Place)) → names ≡ map string members → groups ≡ map group_data places
    → array_of (string (codes "differs") ∷ data_of_number x.replica ∷ data_of_number x.number
    ∷ array_of names ∷ array_of groups ∷ []) ≡ array_of (differs_data x members places)
differs-parts x names members groups places same grouped =
    λ i. array_of (string (codes "differs") ∷ data_of_number x.replica ∷ data_of_number x.number
    ∷ array_of (same i) ∷ array_of (grouped i) ∷ [])

pub no_float-written : (x : Id) (d : Data) (names groups : List Data) (members : List (List ℕ))
    (group : ℕ → List Place) (numbers : List ℕ)
    → d ≡ array_of (string (codes "differs") ∷ data_of_number x.replica ∷ data_of_number x.number
    ∷ array_of names ∷ array_of groups ∷ []) → names ≡ map string members
    → groups ≡ map (λ v. group_data (group v)) numbers → has_float d ≡ false
no_float-written x d names groups members group numbers written same grouped =
    let places = map group numbers in
    ap has_float (written ∙ differs-parts x names members groups places same
    (grouped ∙ sym (map-map group_data group numbers))) ∙ no_float-differs x members places

pub map-from_nil : (names : List Data) (members : List (List ℕ)) → names ≡ map string members
    → names ≡ [] → members ≡ []
map-from_nil names [] same none = refl
map-from_nil names (m ∷ members) same none = absurd (cc)

-- nothing is appended where no member differs
pub difference_text-if_none : (lines : List Placed) (x : Id) (text : List ℕ)
    → differing_members (lines_of_id lines x) ≡ [] → text ≡ text ++ difference_text lines x
difference_text-if_none lines x text none =
    sym (ap (λ ms. text ++ difference_in ms x (lines_of_id lines x)) none ∙ append-nil text)

-- the line where some member differs
pub difference_text-if_some : (lines : List Placed) (x : Id) (members : List (List ℕ)) (d : Data)
    (names : List Data) → differing_members (lines_of_id lines x) ≡ members
    → names ≡ map string members → ¬ (names ≡ [])
    → d ≡ array_of (differs_data x members (groups_of (lines_of_id lines x)))
    → compact_text d ++ line_feed ∷ [] ≡ difference_text lines x
difference_text-if_some lines x [] d names are same some written = absurd (some same)
difference_text-if_some lines x (m ∷ members) d names are same some written =
    ap (λ e. compact_text e ++ line_feed ∷ []) written
    ∙ sym (ap (λ ms. difference_in ms x (lines_of_id lines x)) are)
