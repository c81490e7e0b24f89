-- Arrays of a length that no line of a history has.
use Rattle.std.proofs.Common.{◌≡◌, ◌≢◌, ◌<◌, List, [], ◌∷◌, length, Some, None, refl, sym, arith}
use Rattle.serde_json.specs.Data.{Data}
use Rattle.serde_json.specs.Find.{as_array}
use Rattle.serde_json.specs.View.{items_view}
use Rattle.serde_json.specs.declared.value.Value.{Value}
use Rattle.epx_lines.specs.Elements.{list_of}
use Rattle.epx_linear.specs.HistoryLines.{call_from_list, call_from}

fewer_than_five : (vs : List Value) → length vs < 5
    → call_from_list (list_of (items_view vs)) ≡ None
fewer_than_five [] l = refl
fewer_than_five (a ∷ []) l = refl
fewer_than_five (a ∷ b ∷ []) l = refl
fewer_than_five (a ∷ b ∷ c ∷ []) l = refl
fewer_than_five (a ∷ b ∷ c ∷ d ∷ []) l = refl
fewer_than_five (a ∷ b ∷ c ∷ d ∷ e ∷ vs) l = absurd (omega arith)

neither : (vs : List Value) → length vs ≢ 5 → length vs ≢ 7
    → call_from_list (list_of (items_view vs)) ≡ None
neither [] five seven = refl
neither (a ∷ []) five seven = refl
neither (a ∷ b ∷ []) five seven = refl
neither (a ∷ b ∷ c ∷ []) five seven = refl
neither (a ∷ b ∷ c ∷ d ∷ []) five seven = refl
neither (a ∷ b ∷ c ∷ d ∷ e ∷ []) five seven = absurd (five refl)
neither (a ∷ b ∷ c ∷ d ∷ e ∷ f ∷ []) five seven = refl
neither (a ∷ b ∷ c ∷ d ∷ e ∷ f ∷ g ∷ []) five seven = absurd (seven refl)
neither (a ∷ b ∷ c ∷ d ∷ e ∷ f ∷ g ∷ h ∷ vs) five seven = refl

module _ (d : Data) (vs : List Value) (is : Some (items_view vs) ≡ as_array d) where
  pub call_from-short : length vs < 5 → None ≡ call_from d
  unfolding call_from
  call_from-short l = rw (← is) (sym (fewer_than_five vs l))

  pub call_from-neither : length vs ≢ 5 → length vs ≢ 7 → None ≡ call_from d
  unfolding call_from
  call_from-neither five seven = rw (← is) (sym (neither vs five seven))
