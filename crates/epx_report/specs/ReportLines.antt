-- The lines of a report: each a JSON array in compact form, ended by a line feed.
use Rattle.std.specs.Prelude.{ℕ, ℤ, List, [], ◌∷◌, ◌++◌, map, codes}
use Rattle.serde_json.specs.Data.{Data, number, string, array, unsigned}
use Rattle.serde_json.specs.Find.{of_integer}
use Rattle.serde_json.specs.View.{items_of}
use Rattle.serde_json.specs.Written.{compact_text}
use Rattle.epx_types.specs.declared.id.Id.{Id}
use Rattle.epx_types.specs.declared.reply.Reply.{Reply}
use Rattle.epx_types.specs.declared.reply.Reply.TheVariants.{Values, Abort}
use Rattle.epx_types.specs.WaitingLists.{Waiting}
use Rattle.epx_lines.specs.Text.{data_of_value}

-- the byte that ends a line
abbrev pub line_feed : ℕ
line_feed = 10

-- the JSON array of these elements
abbrev pub array_of : List Data → Data
array_of ds = array (items_of ds)

-- the line of these elements: their JSON array in compact form, and a line feed
abbrev pub line_of : List Data → List ℕ
line_of ds = compact_text (array_of ds) ++ line_feed ∷ []

-- a whole number that is not negative, as a JSON value
abbrev pub data_of_number : ℕ → Data
data_of_number n = number (unsigned n)

-- the elements of a header: how many instances are executed, how many wait, and how many components
-- the executed ones make up
abbrev pub header_data : ℕ → ℕ → ℕ → List Data
header_data executed waiting components =
    string (codes "executed") ∷ data_of_number executed ∷ string (codes "waiting")
    ∷ data_of_number waiting
    ∷ string (codes "components") ∷ data_of_number components ∷ []

-- `["executed",E,"waiting",W,"components",C]`, the first line of a report
abbrev pub header_line : ℕ → ℕ → ℕ → List ℕ
header_line executed waiting components = line_of (header_data executed waiting components)

-- the elements of a done line: an instance that was done before the run
abbrev pub done_data : Id → List Data
done_data x = string (codes "done") ∷ data_of_number x.replica ∷ data_of_number x.number ∷ []

-- `["done",r,i]`, for an instance that was done before the run
abbrev pub done_line : Id → List ℕ
done_line x = line_of (done_data x)

-- the elements of a reply line: an executed instance, and the values that it read or the index of
-- the operation that aborted
abbrev pub reply_data : Id → Reply → List Data
reply_data x (Values vs) = string (codes "reply") ∷ data_of_number x.replica
    ∷ data_of_number x.number ∷ string (codes "ok") ∷ array_of (map data_of_value vs) ∷ []
reply_data x (Abort index) = string (codes "reply") ∷ data_of_number x.replica
    ∷ data_of_number x.number ∷ string (codes "abort") ∷ data_of_number index ∷ []

-- `["reply",r,i,"ok",[v,..]]` or `["reply",r,i,"abort",j]`, for an executed instance
abbrev pub reply_line : Id × Reply → List ℕ
reply_line p = line_of (reply_data p.0 p.1)

-- the elements of a waiting line: an instance, and the missing one that it waits for
abbrev pub waiting_data : Waiting → List Data
waiting_data w = string (codes "waiting") ∷ data_of_number w.id.replica
    ∷ data_of_number w.id.number ∷ data_of_number w.missing.replica
    ∷ data_of_number w.missing.number ∷ []

-- `["waiting",r,i,mr,mi]`, for an instance that waits for the missing one mr.mi
abbrev pub waiting_line : Waiting → List ℕ
waiting_line w = line_of (waiting_data w)

-- the elements of a store line: a key and its value
abbrev pub store_data : List ℕ × ℤ → List Data
store_data p = string (codes "store") ∷ string p.0 ∷ number (of_integer p.1) ∷ []

-- `["store",k,v]`, for a key of the store and its value
abbrev pub store_line : List ℕ × ℤ → List ℕ
store_line p = line_of (store_data p)
