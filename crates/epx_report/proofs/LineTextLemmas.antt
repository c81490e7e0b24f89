-- The text of a report's line is the text of its tokens.
use Rattle.std.proofs.Common.{◌≡◌, ℕ, ℤ, pos, negsuc, List, [], ◌∷◌, ◌++◌, map, codes, Option, Some}
use Rattle.std.proofs.Common.{None, Result, OnOk, flat_map, append_assoc, append-nil, refl, sym, ap}
use Rattle.std.proofs.Common.{◌∙◌}
use Rattle.epx_types.proofs.Common.{on_ok_weaker}
use Rattle.epx_types.specs.declared.id.Id.{Id}
use Rattle.epx_types.specs.declared.reply.Reply.{Reply}
use Rattle.epx_types.specs.declared.reply.Reply.TheVariants.{Values, Abort}
use Rattle.std.specs.declared.alloc.AllocError.{AllocError}
use Rattle.json.specs.Token.{Token, begin_array, end_array, string}
use Rattle.json.specs.Print.{print}
use Rattle.json.specs.Tree.{json_tokens, items_tokens}
use Rattle.serde_json.specs.Data as value
use Rattle.serde_json.specs.Data.{Data}
use Rattle.serde_json.specs.Find.{of_integer}
use Rattle.serde_json.specs.View.{items_of}
use Rattle.serde_json.specs.Written.{outline, items_outline}
use Rattle.serde_json.proofs.Texts.{print-outline}
use Rattle.epx_lines.specs.Text.{data_of_value}
use Rattle.epx_report.specs.inner.LineTokens.{id_tokens, value_token, reply_tokens}
use Rattle.epx_report.specs.ReportLines.{line_feed, array_of, line_of, reply_data, store_data}

abbrev pub tokens_of : Data → List Token
tokens_of d = json_tokens (outline d)

-- the tokens of an array but the last
abbrev pub open_tokens : List Data → List Token
open_tokens ds = begin_array ∷ flat_map tokens_of ds

closed_tokens : (ds : List Data)
    → items_tokens (items_outline (items_of ds)) ≡ flat_map tokens_of ds ++ end_array ∷ []
closed_tokens [] = refl
closed_tokens (d ∷ ds) = ap (λ ts. tokens_of d ++ ts) (closed_tokens ds)
    ∙ sym (append_assoc (tokens_of d) (flat_map tokens_of ds) (end_array ∷ []))

module _ (ds : List Data) (now : List Token) (before text whole : List ℕ) where
  abbrev IsAdded : Type 0
  IsAdded = whole ≡ text ++ ((before ++ print (now ++ end_array ∷ [])) ++ line_feed ∷ [])

  line_added : now ≡ open_tokens ds → before ≡ [] → IsAdded → whole ≡ text ++ line_of ds
  line_added same none e =
      e ∙ ap (λ b. text ++ ((b ++ print (now ++ end_array ∷ [])) ++ line_feed ∷ [])) none
      ∙ ap (λ us. text ++ (print (us ++ end_array ∷ []) ++ line_feed ∷ [])) same
      ∙ ap (λ us. text ++ (print (begin_array ∷ us) ++ line_feed ∷ [])) (sym (closed_tokens ds))
      ∙ ap (λ t. text ++ (t ++ line_feed ∷ [])) (print-outline (array_of ds))

  -- the line of an array of which all tokens but the last are written
  pub OnOk-line_of : (result : Result (Unit {0}) AllocError) → now ≡ open_tokens ds → before ≡ []
      → OnOk result IsAdded → OnOk result (whole ≡ text ++ line_of ds)
  OnOk-line_of result same none = on_ok_weaker result (line_added same none)

  -- the line of an array of which all tokens but the last are written, added to an empty text
  pub line_of-alone : now ≡ open_tokens ds → before ≡ [] → text ≡ [] → IsAdded → whole ≡ line_of ds
  line_of-alone same none empty e = line_added same none e ∙ ap (λ t. t ++ line_of ds) empty

integer_tokens : (v : ℤ) → tokens_of (value.number (of_integer v)) ≡ value_token (Some v) ∷ []
integer_tokens (pos n) = refl
integer_tokens (negsuc n) = refl

value_tokens : (v : Option ℤ) → tokens_of (data_of_value v) ≡ value_token v ∷ []
value_tokens None = refl
value_tokens (Some v) = integer_tokens v

list_tokens : (vs : List (Option ℤ))
    → items_tokens (items_outline (items_of (map data_of_value vs)))
    ≡ map value_token vs ++ end_array ∷ []
list_tokens [] = refl
list_tokens (v ∷ vs) =
    ap (λ ts. ts ++ items_tokens (items_outline (items_of (map data_of_value vs))))
    (value_tokens v) ∙ ap (λ ts. value_token v ∷ ts) (list_tokens vs)

pub reply_line-tokens : (x : Id) (reply : Reply) → begin_array ∷ string (codes "reply")
    ∷ (id_tokens x ++ reply_tokens reply) ≡ open_tokens (reply_data x reply)
reply_line-tokens x (Values vs) = ap (λ ts. begin_array ∷ string (codes "reply")
    ∷ (id_tokens x ++ (string (codes "ok") ∷ begin_array ∷ ts)))
    (sym (append-nil (map value_token vs ++ end_array ∷ []))
    ∙ ap (λ ts. ts ++ []) (sym (list_tokens vs)))
reply_line-tokens x (Abort index) = refl

pub store_line-tokens : (k : List ℕ) (v : ℤ) → begin_array ∷ string (codes "store") ∷ string k
    ∷ value_token (Some v) ∷ [] ≡ open_tokens (store_data (k, v))
store_line-tokens k v =
    ap (λ ts. begin_array ∷ string (codes "store") ∷ string k ∷ (ts ++ [])) (sym (integer_tokens v))
