-- Arrays of a length that no line of a base has.
use Rattle.std.proofs.Common.{◌≡◌, ◌<◌, ◌≤◌, List, [], ◌∷◌, length, Some, None, refl, sym, arith}
use Rattle.serde_json.specs.Data.{Data}
use Rattle.serde_json.specs.Find.{as_array}
use Rattle.serde_json.specs.View.{items_view}
use Rattle.serde_json.specs.declared.value.Value.{Value}
use Rattle.epx_lines.specs.Elements.{list_of}
use Rattle.epx_report.specs.Forms.{form_of_list, form_of}

fewer_than_three : (vs : List Value) → length vs < 3
    → form_of_list (list_of (items_view vs)) ≡ None
fewer_than_three [] l = refl
fewer_than_three (a ∷ []) l = refl
fewer_than_three (a ∷ b ∷ []) l = refl
fewer_than_three (a ∷ b ∷ c ∷ vs) l = absurd (omega arith)

more_than_six : (vs : List Value) → 7 ≤ length vs → form_of_list (list_of (items_view vs)) ≡ None
more_than_six [] l = absurd (omega arith)
more_than_six (a ∷ []) l = absurd (omega arith)
more_than_six (a ∷ b ∷ []) l = absurd (omega arith)
more_than_six (a ∷ b ∷ c ∷ []) l = absurd (omega arith)
more_than_six (a ∷ b ∷ c ∷ d ∷ []) l = absurd (omega arith)
more_than_six (a ∷ b ∷ c ∷ d ∷ e ∷ []) l = absurd (omega arith)
more_than_six (a ∷ b ∷ c ∷ d ∷ e ∷ f ∷ []) l = absurd (omega arith)
more_than_six (a ∷ b ∷ c ∷ d ∷ e ∷ f ∷ g ∷ vs) l = refl

module _ (d : Data) (vs : List Value) (is : Some (items_view vs) ≡ as_array d) where
  pub form_of-short : length vs < 3 → None ≡ form_of d
  unfolding form_of
  form_of-short l = rw (← is) (sym (fewer_than_three vs l))

  pub form_of-long : 7 ≤ length vs → None ≡ form_of d
  unfolding form_of
  form_of-long l = rw (← is) (sym (more_than_six vs l))
