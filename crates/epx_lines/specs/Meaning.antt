-- What a line of a log means: nothing, a committed instance, or the first fault.
use Rattle.std.specs.Prelude.{ℕ, ◌^◌, ◌==◌, ◌||◌, Bool, true, false, nat_lt, List, length, codes}
use Rattle.std.specs.Prelude.{Option, Some, None, is_some, Result, Ok, Err, option_and_then}
use Rattle.std.specs.Prelude.{if◌then◌else◌}
use Rattle.std.specs.List.{list_all}
use Rattle.std.specs.Str.{is_utf8, bytes_eq}
use Rattle.serde_json.specs.Data.{Data}
use Rattle.serde_json.specs.Read.{read}
use Rattle.serde_json.specs.Find.{get, as_object, as_str}
use Rattle.epx_types.specs.declared.id.Id.{Id}
use Rattle.epx_types.specs.declared.fault.Why.{Why}
use Rattle.epx_types.specs.declared.fault.Why.TheVariants.{TooLong, NotJson, NotObject, Replica}
use Rattle.epx_types.specs.declared.fault.Why.TheVariants.{Number, Seq, Status, Deps, Ops}
use Rattle.epx_lines.specs.declared.Line.{Line}
use Rattle.epx_lines.specs.declared.Line.TheVariants.{Blank, Entry}
use Rattle.epx_lines.specs.Elements.{whole}
use Rattle.epx_lines.specs.DependencyList.{deps_of}
use Rattle.epx_lines.specs.OperationList.{ops_of}

-- ---- bytes

-- the most bytes that a line may have if it is not blank, without its line feed: 65,536
abbrev pub max_line_bytes : ℕ
max_line_bytes = 65536

-- a space, a tab or a carriage return
abbrev pub is_space : ℕ → Bool
is_space b = (b == 32) || (b == 9) || (b == 13)

-- whether each byte of the line is a space, a tab or a carriage return; an empty line is blank
abbrev pub is_blank : List ℕ → Bool
is_blank bytes = list_all is_space bytes

-- the value of the bytes as a JSON text (RFC 8259). None if they are not UTF-8 or not JSON, nest
-- more than 127 levels deep, or have a lone surrogate or a number that is too large for a float
abbrev pub json_of : List ℕ → Option Data
json_of bytes = if is_utf8 bytes then read bytes else None

-- ---- an object

-- f of the member with this name, if there is one
abbrev pub at_member : {A : Type 0} → List ℕ → (Data → Option A) → Data → Option A
at_member name f d = option_and_then f (get name d)

-- whether an instance with this status is committed: true for `committed` and `executed`, false for
-- `accepted` and `pre-accepted`, None for any other text
abbrev pub committed_by : List ℕ → Option Bool
committed_by text =
    if bytes_eq text (codes "committed") || bytes_eq text (codes "executed") then Some true else
    (if bytes_eq text (codes "accepted") || bytes_eq text (codes "pre-accepted") then Some false
    else None)

-- whether the instance of an object is committed, by its member `status`; it is if there is no
-- such member; None if there is one that is no status
abbrev pub is_committed : Option Data → Option Bool
is_committed None = Some true
is_committed (Some d) = option_and_then committed_by (as_str d)

-- `next` of the value, if there is one, and the fault otherwise
abbrev pub need : {A B : Type 0} → Why → Option A → (A → Result B Why) → Result B Why
need why None next = Err why
need why (Some x) next = next x

-- what an object means, by its members `r`, `i`, `seq`, `status`, `deps` and `ops`: the fault of
-- the first bad one, or the instance. If `status` says that it is not committed, the meaning is
-- nothing, whatever `deps` and `ops` are
unfoldable pub meaning_of_object : Data → Result Line Why
meaning_of_object d =
    need Replica (at_member (codes "r") (whole 256) d) (λ r.
    need Number (at_member (codes "i") (whole (2 ^ 64)) d) (λ i.
    need Seq (at_member (codes "seq") (whole (2 ^ 64)) d) (λ seq.
    need Status (is_committed (get (codes "status") d)) (λ committed.
    if committed then
    (let id : Id = record { replica = r; number = i } in
    need Deps (at_member (codes "deps") (deps_of id) d) (λ deps.
    need Ops (at_member (codes "ops") ops_of d) (λ ops.
    Ok (Entry (record { id = id; seq = seq; deps = deps; ops = ops })))))
    else Ok Blank))))

-- ---- the line

-- what a line with this JSON value means: what the object means, or the fault `NotObject` if the
-- value is no object
abbrev pub meaning_of_value : Data → Result Line Why
meaning_of_value d = if is_some (as_object d) then meaning_of_object d else Err NotObject

-- what a line means, by its bytes without the line feed: nothing if it is blank or not committed
-- yet, an instance, or the first fault: `TooLong`, `NotJson`, `NotObject`, or one of its object
abbrev pub meaning_of : List ℕ → Result Line Why
meaning_of bytes =
    if is_blank bytes then Ok Blank else
    (if nat_lt max_line_bytes (length bytes) then Err TooLong else need NotJson (json_of bytes)
    meaning_of_value)
