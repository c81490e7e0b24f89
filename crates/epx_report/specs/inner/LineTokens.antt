-- The tokens of parts of a report's lines. Only private clauses use them.
use Rattle.std.specs.Prelude.{ℤ, List, [], ◌∷◌, ◌++◌, map, codes, decimal, Option, Some, None}
use Rattle.std.specs.Fmt.{signed_decimal}
use Rattle.json.specs.Token.{Token, begin_array, end_array, string, number, null}
use Rattle.epx_types.specs.declared.id.Id.{Id}
use Rattle.epx_types.specs.declared.reply.Reply.{Reply}
use Rattle.epx_types.specs.declared.reply.Reply.TheVariants.{Values, Abort}

-- `r,i`, the tokens of an Id
abbrev pub id_tokens : Id → List Token
id_tokens x = number (decimal x.replica) ∷ number (decimal x.number) ∷ []

-- the token of a value: a number, or null where there is none
abbrev pub value_token : Option ℤ → Token
value_token None = null
value_token (Some v) = number (signed_decimal v)

-- `"ok",[v,..]` or `"abort",j`, the tokens of a reply
abbrev pub reply_tokens : Reply → List Token
reply_tokens (Values vs) = string (codes "ok") ∷ begin_array
    ∷ (map value_token vs ++ end_array ∷ [])
reply_tokens (Abort index) = string (codes "abort") ∷ number (decimal index) ∷ []
