-- The values of the lines of differences have no floats.
use Rattle.std.proofs.Common.{◌≡◌, ℕ, ℤ, pos, negsuc, ◌||◌, false, List, [], ◌∷◌, map, Option, Some}
use Rattle.std.proofs.Common.{None, refl, ap₂}
use Rattle.serde_json.specs.View.{items_of}
use Rattle.serde_json.specs.Written.{has_float, items_have_float}
use Rattle.epx_types.specs.declared.id.Id.{Id}
use Rattle.epx_types.specs.declared.reply.Reply.{Reply}
use Rattle.epx_types.specs.declared.reply.Reply.TheVariants.{Values, Abort}
use Rattle.epx_lines.specs.Text.{data_of_value}
use Rattle.epx_report.specs.ReportLines.{array_of}
use Rattle.epx_verify.specs.Differences.{outcome_data, wrong_reply_data, wrong_value_data}

value_is_whole : (v : Option ℤ) → has_float (data_of_value v) ≡ false
value_is_whole None = refl
value_is_whole (Some (pos n)) = refl
value_is_whole (Some (negsuc n)) = refl

values_are_whole : (vs : List (Option ℤ))
    → items_have_float (items_of (map data_of_value vs)) ≡ false
values_are_whole [] = refl
values_are_whole (v ∷ vs) = ap₂ (λ a b. a || b) (value_is_whole v) (values_are_whole vs)

outcome_is_whole : (r : Reply) → has_float (outcome_data r) ≡ false
outcome_is_whole (Values vs) = rw (values_are_whole vs) refl
outcome_is_whole (Abort j) = refl

pub has_float-wrong_reply : (x : Id) (said right : Reply)
    → has_float (array_of (wrong_reply_data x said right)) ≡ false
has_float-wrong_reply x said right = rw (outcome_is_whole said, outcome_is_whole right) refl

pub has_float-wrong_value : (k : List ℕ) (said right : Option ℤ)
    → has_float (array_of (wrong_value_data k said right)) ≡ false
has_float-wrong_value k said right = rw (value_is_whole said, value_is_whole right) refl
