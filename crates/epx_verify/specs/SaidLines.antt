-- What one line of a replica's text says, whatever its position: a reply with its outcome, or a key
-- with its value. The line is a JSON array in any spelling.
use Rattle.std.specs.Prelude.{ℕ, ◌^◌, ℤ, nat_lt, List, [], ◌∷◌, length, codes, Option, None}
use Rattle.std.specs.Prelude.{option_map, option_and_then, if◌then◌else◌}
use Rattle.serde_json.specs.Data.{Data}
use Rattle.epx_types.specs.declared.reply.Reply.{Reply}
use Rattle.epx_types.specs.declared.reply.Reply.TheVariants.{Values, Abort}
use Rattle.epx_lines.specs.Meaning.{max_line_bytes, json_of}
use Rattle.epx_lines.specs.Elements.{if_below, whole, signed, elements, each_of_at_most}
use Rattle.epx_lines.specs.OperationList.{key_of, value_or_null}
use Rattle.epx_report.specs.Forms.{is_text, id_from}
use Rattle.epx_verify.specs.declared.said_line.SaidLine.{SaidLine}
use Rattle.epx_verify.specs.declared.said_line.SaidLine.TheVariants.{Replied, Stored}

-- an array of at most 64 values, each a number or null
unfoldable pub values_of : Data → Option (List (Option ℤ))
values_of d = each_of_at_most 64 value_or_null d

-- the index of an operation: a whole number below 64
unfoldable pub op_index_of : Data → Option ℕ
op_index_of d = option_and_then (if_below 64) (whole (2 ^ 64) d)

-- the reply of `"ok",[v,..]` or `"abort",j`, the last two elements of a line; None of others
unfoldable pub reply_of : Data → Data → Option Reply
reply_of a b =
    if is_text (codes "ok") a then option_map Values (values_of b) else
    (if is_text (codes "abort") a then option_map Abort (op_index_of b) else None)

-- an instance and its reply, if the five elements are those of a line `["reply",r,i,..]`
unfoldable pub replied_of : Data → Data → Data → Data → Data → Option SaidLine
replied_of n r i a b =
    if is_text (codes "reply") n
    then option_and_then (λ x. option_map (Replied x) (reply_of a b)) (id_from r i) else None

-- a key and its value of 64 bits with sign, if the elements are those of `["store",k,v]`
unfoldable pub stored_of : Data → Data → Data → Option SaidLine
stored_of n k v =
    if is_text (codes "store") n
    then option_and_then (λ key. option_map (Stored key) (signed v)) (key_of k) else None

-- what the elements of a line say: the value of a key if they are three, a reply if they are five
abbrev pub said_by_list : List Data → Option SaidLine
said_by_list (n ∷ k ∷ v ∷ []) = stored_of n k v
said_by_list (n ∷ r ∷ i ∷ a ∷ b ∷ []) = replied_of n r i a b
said_by_list _ = None

-- what a line says, by its JSON value: by its elements if it is an array, and None otherwise
unfoldable pub said_by : Data → Option SaidLine
said_by d = option_and_then said_by_list (elements d)

-- what a line says, by its bytes without the line feed; None if they are more than
-- `max_line_bytes`, or no line of a reply or of a key
unfoldable pub said_line_of : List ℕ → Option SaidLine
said_line_of bytes = if nat_lt max_line_bytes (length bytes) then None else option_and_then said_by
    (json_of bytes)
