-- What a line says, by the parts that were read after its name.
use Rattle.std.proofs.Common.{◌≡◌, ℕ, ℤ, ◌^◌, ◌<◌, ◌≤◌, true, nat_le, codes, List, [], ◌∷◌, ◌++◌}
use Rattle.std.proofs.Common.{Some, None, option_map, is_some, refl, ap, ◌∙◌, arith, lt-ltb}
use Rattle.std.proofs.Common.{if◌then◌else◌}
use Rattle.epx_types.proofs.Common.{nat_tests}
use Rattle.epx_types.specs.declared.id.Id.{Id}
use Rattle.serde_json.specs.Data.{Data, string}
use Rattle.epx_lines.specs.Elements.{whole, signed}
use Rattle.epx_lines.specs.DependencyList.{id_of_pair}
use Rattle.epx_lines.specs.OperationList.{key_of}
use Rattle.epx_report.specs.declared.from_value.BaseLine.TheVariants.{Header, Done, Reply, Waiting}
use Rattle.epx_report.specs.declared.from_value.BaseLine.TheVariants.{Store}
use Rattle.epx_report.specs.Forms.{counts_of, header_of, is_value_list, is_op_index, is_outcome}
use Rattle.epx_report.specs.Forms.{id_line_of, short_line_of, form_named}

-- ---- replies

pub is_op_index-below : (d : Data) (n : ℕ) → whole (2 ^ 64) d ≡ Some n → n < 64
    → is_op_index d ≡ true
unfolding is_op_index
is_op_index-below d n is l = rw (is, lt-ltb n 64 l) refl

pub is_outcome-ok : (d : Data) → is_value_list d ≡ true → is_outcome (string (codes "ok")) d ≡ true
unfolding is_outcome
is_outcome-ok d h = rw h refl

pub is_outcome-abort : (d : Data) → is_op_index d ≡ true
    → is_outcome (string (codes "abort")) d ≡ true
unfolding is_outcome
is_outcome-abort d h = rw h refl

pub form_named-reply : (ds : List Data) (x : Id) (a b : Data) → id_of_pair ds ≡ Some x
    → is_outcome a b ≡ true → form_named (codes "reply") (ds ++ a ∷ b ∷ []) ≡ Some (Reply x)
unfolding id_line_of
form_named-reply [] x a b is ok = absurd (cc is)
form_named-reply (r ∷ []) x a b is ok = absurd (cc is)
form_named-reply (r ∷ i ∷ []) x a b is ok = rw ok (ap (option_map Reply) is)
form_named-reply (r ∷ i ∷ d ∷ ds) x a b is ok = absurd (cc is)

-- ---- the other lines

pub form_named-done : (ds : List Data) (x : Id) → id_of_pair ds ≡ Some x
    → form_named (codes "done") ds ≡ Some (Done x)
unfolding short_line_of
form_named-done [] x is = absurd (cc is)
form_named-done (r ∷ []) x is = absurd (cc is)
form_named-done (r ∷ i ∷ []) x is = ap (option_map Done) is
form_named-done (r ∷ i ∷ d ∷ ds) x is = absurd (cc is)

form_named-waiting_for : (r i : Data) (es : List Data) (x y : Id)
    → id_of_pair (r ∷ i ∷ []) ≡ Some x → id_of_pair es ≡ Some y
    → form_named (codes "waiting") (r ∷ i ∷ es) ≡ Some (Waiting x)
unfolding id_line_of
form_named-waiting_for r i [] x y is missing = absurd (cc missing)
form_named-waiting_for r i (a ∷ []) x y is missing = absurd (cc missing)
form_named-waiting_for r i (a ∷ b ∷ []) x y is missing =
    ap (λ o. if is_some o then option_map Waiting (id_of_pair (r ∷ i ∷ [])) else None) missing
    ∙ ap (option_map Waiting) is
form_named-waiting_for r i (a ∷ b ∷ c ∷ es) x y is missing = absurd (cc missing)

pub form_named-waiting : (ds es : List Data) (x y : Id) → id_of_pair ds ≡ Some x
    → id_of_pair es ≡ Some y → form_named (codes "waiting") (ds ++ es) ≡ Some (Waiting x)
form_named-waiting [] es x y is missing = absurd (cc is)
form_named-waiting (r ∷ []) es x y is missing = absurd (cc is)
form_named-waiting (r ∷ i ∷ []) es x y is missing = form_named-waiting_for r i es x y is missing
form_named-waiting (r ∷ i ∷ d ∷ ds) es x y is missing = absurd (cc is)

pub form_named-store : (a b : Data) (k : List ℕ) (v : ℤ) → key_of a ≡ Some k → signed b ≡ Some v
    → form_named (codes "store") (a ∷ b ∷ []) ≡ Some (Store k v)
unfolding short_line_of
form_named-store a b k v k_is v_is = rw (k_is, v_is) refl

module _ (e w c : Data) (executed waiting components : ℕ) where
  pub form_named-executed : whole (2 ^ 64) e ≡ Some executed → whole (2 ^ 64) w ≡ Some waiting
      → whole (2 ^ 64) c ≡ Some components → components ≤ executed
      → form_named (codes "executed")
      (e ∷ string (codes "waiting") ∷ w ∷ string (codes "components") ∷ c ∷ [])
      ≡ Some (Header (record { executed = executed; waiting = waiting }))
  unfolding header_of counts_of
  form_named-executed e_is w_is c_is within =
      let few : nat_le components executed ≡ true = grind (arith, nat_tests) in
      rw (e_is, w_is, c_is, few) refl
