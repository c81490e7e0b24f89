-- Steps that yield something, and tests that are passed.
use Rattle.std.proofs.Common.{◌≡◌, ℕ, ◌^◌, nat_le, true, false, Bool, List, [], ◌∷◌, Option, Some}
use Rattle.std.proofs.Common.{None, option_and_then, option_map, refl, subst, arith, codes}
use Rattle.serde_json.specs.Data.{Data}
use Rattle.epx_types.proofs.Common.{nat_tests}
use Rattle.epx_lines.specs.Elements.{elements, whole}
use Rattle.epx_lines.specs.Meaning.{json_of}
use Rattle.epx_report.specs.Forms.{is_text}
use Rattle.epx_report.proofs.BegunBaseLemmas.{Some-from_if}
use Rattle.epx_executor.specs.Runs.{IsFilledRun}
use Rattle.epx_executor.specs.declared.done_runs.Run.{Run}
use Rattle.epx_state.specs.StateForms.{run_of_line, run_of_list, run_within}

module _ {A B : Type 0} where
  pub option_and_then-some : (f : A → Option B) (o : Option A) (b : B)
      → option_and_then f o ≡ Some b
      → (a : A) × (o ≡ Some a) × (f a ≡ Some b)
  option_and_then-some f None b e = absurd (cc e)
  option_and_then-some f (Some a) b e = (a, refl, e)

  pub option_map-some : (f : A → B) (o : Option A) (b : B) → option_map f o ≡ Some b
      → (a : A) × (o ≡ Some a) × (f a ≡ b)
  option_map-some f None b e = absurd (cc e)
  option_map-some f (Some a) b e = (a, refl, cc e)

-- a run that a line says has a number
run_within-filled : (replica first last : ℕ) (r : Run) → run_within replica first last ≡ Some r
    → IsFilledRun r
run_within-filled replica first last r e =
    let goes = Some-from_if (nat_le first last)
    (record { replica = replica; first = first; last = last }) r e in
    subst IsFilledRun goes.1 (grind (arith, nat_tests, goes.0))

pub IsFilledRun-run_of_line : (l : List ℕ) (r : Run) → run_of_line l ≡ Some r → IsFilledRun r
unfolding run_of_line
IsFilledRun-run_of_line l r e =
    let list = option_and_then-some run_of_list (option_and_then elements (json_of l)) r e in
    of_list list.0 list.2
  where
    named : (n a f m : Data) (b : Bool) → is_text (codes "runs") n ≡ b
        → run_of_list (n ∷ a ∷ f ∷ m ∷ []) ≡ Some r → IsFilledRun r
    named n a f m false is h =
        let none : None ≡ Some r = (rw is at h) in absurd (cc none)
    named n a f m true is h =
        let replica = option_and_then-some (λ x. option_and_then (λ y. option_and_then
        (λ z. run_within x y z) (whole (2 ^ 64) m)) (whole (2 ^ 64) f)) (whole 256 a) r
        (rw is at h) in
        let first = option_and_then-some (λ y. option_and_then (λ z. run_within replica.0 y z)
        (whole (2 ^ 64) m)) (whole (2 ^ 64) f) r replica.2 in
        let end = option_and_then-some (λ z. run_within replica.0 first.0 z) (whole (2 ^ 64) m) r
        first.2 in
        run_within-filled replica.0 first.0 end.0 r end.2

    of_list : (ds : List Data) → run_of_list ds ≡ Some r → IsFilledRun r
    of_list (n ∷ a ∷ f ∷ m ∷ []) h = named n a f m (is_text (codes "runs") n) refl h
    of_list [] h = absurd (cc h)
    of_list (n ∷ []) h = absurd (cc h)
    of_list (n ∷ a ∷ []) h = absurd (cc h)
    of_list (n ∷ a ∷ f ∷ []) h = absurd (cc h)
    of_list (n ∷ a ∷ f ∷ m ∷ x ∷ ds) h = absurd (cc h)
