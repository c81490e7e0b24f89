use Rattle.std.proofs.Common.{◌≡◌, ◌∙◌, ◌≢◌, ◌==◌, ◌||◌, Bool, true, false, inl, inr, sym, ap}
use Rattle.std.proofs.Common.{arith}
use Rattle.epx_types.proofs.Common.{bit_at, w64, cases_Bool, eqb-true}
use Rattle.std.proofs.lemmas.Bool.{eqb-false}
use Rattle.std.proofs.lemmas.Nat.Bits.{bit_at_set_same, bit_at_set_other}
use Rattle.epx_compare.proofs.log_set.LogSet.insert.Goals as goal

either : (a y e : Bool) → a ≡ true → e ≡ true → a ≡ (y || e)
either a true e p q = p
either a false e p q = p ∙ sym q

neither : (a y e : Bool) → a ≡ y → e ≡ false → a ≡ (y || e)
neither a true e p q = p
neither a false e p q = p ∙ sym q

pub returns : goal.returns
returns c l =
    let n = c.args.self.now.bits in
    let log = c.args.log in
    elim (cases_Bool (log == l)) [
      | inl same ↦
          let is = eqb-true log l same in
          let bit = bit_at_set_same w64 n log (omega arith) in
          either _ (bit_at n l == 1) (log == l)
          (ap (λ b. b == 1) (ap (bit_at _) (sym is) ∙ bit)) same
      | inr other ↦
          let apart : l ≢ log = λ e. eqb-false log l other (sym e) in
          neither _ (bit_at n l == 1) (log == l)
          (ap (λ b. b == 1) (bit_at_set_other w64 n log (omega arith) l apart)) other
    ]
