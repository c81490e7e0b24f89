-- What one line of a base says, whatever its position. The line is a JSON array in any spelling.
use Rattle.std.specs.Prelude.{ℕ, ◌^◌, ◌&&◌, ◌||◌, Bool, false, nat_lt, nat_le, List, [], ◌∷◌}
use Rattle.std.specs.Prelude.{length, codes, Option, Some, None, is_some, option_map}
use Rattle.std.specs.Prelude.{option_and_then, if◌then◌else◌}
use Rattle.std.specs.List.{list_all}
use Rattle.std.specs.Str.{bytes_eq}
use Rattle.serde_json.specs.Data.{Data, string}
use Rattle.serde_json.specs.Find.{as_str}
use Rattle.epx_types.specs.declared.id.Id.{Id}
use Rattle.epx_lines.specs.Meaning.{max_line_bytes, json_of}
use Rattle.epx_lines.specs.Elements.{if_below, whole, signed, elements}
use Rattle.epx_lines.specs.DependencyList.{id_of_pair}
use Rattle.epx_lines.specs.OperationList.{key_of, value_or_null}
use Rattle.epx_report.specs.declared.from_value.Counts.{Counts}
use Rattle.epx_report.specs.declared.from_value.BaseLine.{BaseLine}
use Rattle.epx_report.specs.declared.from_value.BaseLine.TheVariants.{Header, Done, Reply, Waiting}
use Rattle.epx_report.specs.declared.from_value.BaseLine.TheVariants.{Store}

-- there is a text, and it is this one
abbrev pub is_same_text : List ℕ → Option (List ℕ) → Bool
is_same_text text None = false
is_same_text text (Some found) = bytes_eq found text

-- the value is a JSON string of exactly this text
abbrev pub is_text : List ℕ → Data → Bool
is_text text d = is_same_text text (as_str d)

-- the Id of two JSON values: a replica below 256 and a number below 2^64; otherwise None
abbrev pub id_from : Data → Data → Option Id
id_from r i = id_of_pair (r ∷ i ∷ [])

-- ---- the first line

-- the counts of a header; None if it says that there are more components than executed instances
abbrev pub counts_within : ℕ → ℕ → ℕ → Option Counts
counts_within executed waiting components =
    if nat_le components executed then Some (record { executed = executed; waiting = waiting })
    else None

-- the counts of a header; None if one of the three values is no whole number below 2^64, or if
-- there are more components than executed instances
unfoldable pub counts_of : Data → Data → Data → Option Counts
counts_of e w c =
    option_and_then
    (λ executed. option_and_then
    (λ waiting. option_and_then (λ components. counts_within executed waiting components)
    (whole (2 ^ 64) c)) (whole (2 ^ 64) w)) (whole (2 ^ 64) e)

-- what the six elements of a line `["executed",E,"waiting",W,"components",C]` say; None if they
-- have another form
unfoldable pub header_of : Data → Data → Data → Data → Data → Data → Option BaseLine
header_of n e o w p c = if is_text (codes "executed") n && is_text (codes "waiting") o && is_text
    (codes "components") p then option_map Header (counts_of e w c) else None

-- ---- replies

-- there is a list, of at most 64 values, each a signed whole number of 64 bits or null
abbrev pub are_few_values : Option (List Data) → Bool
are_few_values None = false
are_few_values (Some ds) = nat_le (length ds) 64 && list_all (λ d. is_some (value_or_null d)) ds

-- an array of at most 64 values, each a signed whole number of 64 bits or null
unfoldable pub is_value_list : Data → Bool
is_value_list d = are_few_values (elements d)

-- the index of an operation: a whole number below 64
unfoldable pub is_op_index : Data → Bool
is_op_index d = is_some (option_and_then (if_below 64) (whole (2 ^ 64) d))

-- the last two elements of a reply line: `"ok",[v,..]`, or `"abort",j` with j below 64
unfoldable pub is_outcome : Data → Data → Bool
is_outcome a b = (is_text (codes "ok") a && is_value_list b) ||
    (is_text (codes "abort") a && is_op_index b)

-- ---- lines of each length

-- what the five elements of a line `["reply",r,i,..]` or `["waiting",r,i,mr,mi]` say: the instance
-- r.i; None if they have another form
unfoldable pub id_line_of : Data → Data → Data → Data → Data → Option BaseLine
id_line_of n r i a b =
    if is_text (codes "reply") n then
    (if is_outcome a b then option_map Reply (id_from r i) else None) else
    (if is_text (codes "waiting") n then
    (if is_some (id_from a b) then option_map Waiting (id_from r i) else None) else None)

-- what the three elements of a line `["done",r,i]` or `["store",k,v]` say; None if they have
-- another form
unfoldable pub short_line_of : Data → Data → Data → Option BaseLine
short_line_of n a b =
    if is_text (codes "done") n then option_map Done (id_from a b) else
    (if is_text (codes "store") n then option_and_then (λ k. option_map (Store k) (signed b))
    (key_of a) else None)

-- what a line says, by the elements of its array; None if they have none of the forms
abbrev pub form_of_list : List Data → Option BaseLine
form_of_list (n ∷ a ∷ b ∷ []) = short_line_of n a b
form_of_list (n ∷ r ∷ i ∷ a ∷ b ∷ []) = id_line_of n r i a b
form_of_list (n ∷ e ∷ o ∷ w ∷ p ∷ c ∷ []) = header_of n e o w p c
form_of_list _ = None

-- what a line says, by its name and the elements after it
abbrev pub form_named : List ℕ → List Data → Option BaseLine
form_named name ds = form_of_list (string name ∷ ds)

-- what a line of a base says, by its JSON value; None if it is no array of one of the forms
unfoldable pub form_of : Data → Option BaseLine
form_of d = option_and_then form_of_list (elements d)

-- what a line of a base says, by its bytes without the line feed; None if there are more than
-- `max_line_bytes` of them, or if they are no JSON array of one of the forms
unfoldable pub base_line_of : List ℕ → Option BaseLine
base_line_of bytes = if nat_lt max_line_bytes (length bytes) then None else option_and_then form_of
    (json_of bytes)
