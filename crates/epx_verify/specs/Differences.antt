-- Where what a replica says is not what executing its instances gives.
use Rattle.std.specs.Prelude.{ℕ, ℤ, ◌==◌, Bool, false, List, [], ◌∷◌, ◌++◌, map, flat_map, zip}
use Rattle.std.specs.Prelude.{codes, Option, if◌then◌else◌}
use Rattle.std.specs.Cmp.Lexicographic.{pointwise}
use Rattle.std.specs.FinMap as contents
use Rattle.serde_json.specs.Data.{Data, string}
use Rattle.epx_types.specs.declared.id.Id.{Id}
use Rattle.epx_types.specs.declared.reply.Reply.{Reply}
use Rattle.epx_types.specs.declared.reply.Reply.TheVariants.{Values, Abort}
use Rattle.epx_types.specs.Instances.{Instance}
use Rattle.epx_types.specs.Contents.{Contents}
use Rattle.epx_types.specs.Keys.{rising_keys}
use Rattle.epx_types.specs.Operations.{same_value}
use Rattle.epx_lines.specs.Text.{data_of_value}
use Rattle.epx_report.specs.ReportLines.{array_of, data_of_number, line_of}
use Rattle.epx_report.specs.ReportReadings.{replied_ids}
use Rattle.epx_verify.specs.ListExecutions.{list_execution}

-- ---- replies

-- `["ok",[v,..]]` or `["abort",j]`
abbrev pub outcome_data : Reply → Data
outcome_data (Values vs) = array_of (string (codes "ok") ∷ array_of (map data_of_value vs) ∷ [])
outcome_data (Abort j) = array_of (string (codes "abort") ∷ data_of_number j ∷ [])

-- the elements of `["reply",r,i,SAID,RIGHT]`: an instance, the reply that was said, and the right
-- one
abbrev pub wrong_reply_data : Id → Reply → Reply → List Data
wrong_reply_data x said right = string (codes "reply") ∷ data_of_number x.replica
    ∷ data_of_number x.number ∷ outcome_data said ∷ outcome_data right ∷ []

-- both replies have the same values, or are aborts at the same operation
abbrev pub same_reply : Reply → Reply → Bool
same_reply (Values vs) (Values ws) = pointwise same_value vs ws
same_reply (Abort j) (Abort k) = j == k
same_reply _ _ = false

-- the line `["reply",r,i,SAID,RIGHT]` of an instance if the reply that was said is not the right
-- one, and no text otherwise
abbrev pub reply_difference : (Id × Reply) × Reply → List ℕ
reply_difference p =
    if same_reply p.0.1 p.1 then [] else line_of (wrong_reply_data p.0.0 p.0.1 p.1)

-- ---- the store

-- the elements of `["store",k,said,right]`: a key, the value that was said, and the right one; null
-- where the key is absent
abbrev pub wrong_value_data : List ℕ → Option ℤ → Option ℤ → List Data
wrong_value_data k said right =
    string (codes "store") ∷ string k ∷ data_of_value said ∷ data_of_value right ∷ []

-- the line `["store",k,said,right]` of a key if the value that was said is not the right one, and
-- no text otherwise
abbrev pub value_difference : Contents → Contents → List ℕ → List ℕ
value_difference said right k =
    if same_value (contents.get said k) (contents.get right k) then []
    else line_of (wrong_value_data k (contents.get said k) (contents.get right k))

-- the keys that are present in either, in rising order
abbrev pub keys_of_either : Contents → Contents → List (List ℕ)
keys_of_either said right = rising_keys (contents.keys said ++ contents.keys right)

-- the lines of the keys whose values are wrong, by rising key. A key that only one store has is
-- one of them
abbrev pub store_differences : Contents → Contents → List ℕ
store_differences said right = flat_map (value_difference said right) (keys_of_either said right)

-- ---- both

-- The instances of `replies` are executed in their order, from the empty store. The text has the
-- lines of the wrong replies, in this order, and then those of the keys whose values are wrong
abbrev pub differences_text : List Instance → List (Id × Reply) → Contents → List ℕ
differences_text m replies stored =
    let right = list_execution m (replied_ids replies) in
    flat_map reply_difference (zip replies right.replies) ++ store_differences stored right.final
