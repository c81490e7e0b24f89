-- The tokens of a line of a history that say the answer.
use Rattle.std.specs.Prelude.{◌≡◌, ℕ, List, [], ◌∷◌, Option, Some, None, option_map}
use Rattle.json.specs.Token.{Token}
use Rattle.json.specs.Json.{after_end_array}
use Rattle.serde_json.specs.Data.{Data}
use Rattle.epx_types.specs.declared.reply.Reply.{Reply}
use Rattle.epx_lines.specs.between.Tokens.{ParsesAllTo}
use Rattle.epx_verify.specs.SaidLines.{reply_of}

-- the answer by the elements after the times, if there are any
abbrev pub answer_from : List Data → Option (Option Reply)
answer_from [] = Some None
answer_from (a ∷ b ∷ []) = option_map Some (reply_of a b)
answer_from _ = None

-- the tokens begin with the last elements of an array, for which f returns x, and with its end
abbrev pub ParsesToEnd : {A : Type 0} → ℕ → (List Data → Option A) → List Token → A → List Token
    → Type 0
ParsesToEnd n f ts x rest = (end : List Token) × ParsesAllTo n f ts x end
    × (after_end_array end ≡ Some rest)
