-- Arrays of a length that no line of a kind has.
use Rattle.std.proofs.Common.{◌≡◌, ◌≢◌, List, [], ◌∷◌, length, Some, None, refl, sym}
use Rattle.std.proofs.Common.{option_and_then}
use Rattle.serde_json.specs.Data.{Data}
use Rattle.serde_json.specs.Find.{as_array}
use Rattle.serde_json.specs.View.{items_view}
use Rattle.serde_json.specs.declared.value.Value.{Value}
use Rattle.epx_lines.specs.Elements.{elements, list_of}
use Rattle.epx_state.specs.StateForms.{counts_of_list, pair_of_list, run_of_list}

not_seven : (vs : List Value) → length vs ≢ 7 → counts_of_list (list_of (items_view vs)) ≡ None
not_seven [] h = refl
not_seven (a ∷ []) h = refl
not_seven (a ∷ b ∷ []) h = refl
not_seven (a ∷ b ∷ c ∷ []) h = refl
not_seven (a ∷ b ∷ c ∷ d ∷ []) h = refl
not_seven (a ∷ b ∷ c ∷ d ∷ e ∷ []) h = refl
not_seven (a ∷ b ∷ c ∷ d ∷ e ∷ f ∷ []) h = refl
not_seven (a ∷ b ∷ c ∷ d ∷ e ∷ f ∷ g ∷ []) h = absurd (h refl)
not_seven (a ∷ b ∷ c ∷ d ∷ e ∷ f ∷ g ∷ i ∷ vs) h = refl

not_four : (vs : List Value) → length vs ≢ 4 → run_of_list (list_of (items_view vs)) ≡ None
not_four [] h = refl
not_four (a ∷ []) h = refl
not_four (a ∷ b ∷ []) h = refl
not_four (a ∷ b ∷ c ∷ []) h = refl
not_four (a ∷ b ∷ c ∷ d ∷ []) h = absurd (h refl)
not_four (a ∷ b ∷ c ∷ d ∷ e ∷ vs) h = refl

not_three : (vs : List Value) → length vs ≢ 3 → pair_of_list (list_of (items_view vs)) ≡ None
not_three [] h = refl
not_three (a ∷ []) h = refl
not_three (a ∷ b ∷ []) h = refl
not_three (a ∷ b ∷ c ∷ []) h = absurd (h refl)
not_three (a ∷ b ∷ c ∷ d ∷ vs) h = refl

module _ (d : Data) (vs : List Value) (is : Some (items_view vs) ≡ as_array d) where
  pub counts-other_length : length vs ≢ 7 → None ≡ option_and_then counts_of_list (elements d)
  counts-other_length h = rw (← is) (sym (not_seven vs h))

  pub run-other_length : length vs ≢ 4 → None ≡ option_and_then run_of_list (elements d)
  run-other_length h = rw (← is) (sym (not_four vs h))

  pub pair-other_length : length vs ≢ 3 → None ≡ option_and_then pair_of_list (elements d)
  pair-other_length h = rw (← is) (sym (not_three vs h))
