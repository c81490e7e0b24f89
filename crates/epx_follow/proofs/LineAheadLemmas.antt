-- Lines that were read before they are taken.
use Rattle.std.proofs.Common.{◌≡◌, ◌++◌, ◌∷◌, ℕ, List, [], All, arith, subst, sym}
use Rattle.std.proofs.lemmas.List.Elements.{All-push}
use Rattle.std.proofs.lemmas.Option.{get_or_from_slice_get}
use Rattle.epx_claims.specs.between.Answered.{AreOrderedAnswers}
use Rattle.epx_follow.specs.declared.lines_ahead.ReadLine.{ReadLine}
use Rattle.epx_follow.specs.inner.LinesAhead.{IsReadRight}

pub IsReadRight-push : (xs ys : List ReadLine) (r : ReadLine) → All IsReadRight xs → IsReadRight r
    → ys ≡ xs ++ r ∷ [] → All IsReadRight ys
IsReadRight-push xs ys r h right is =
    subst (All IsReadRight) (sym is) (All-push IsReadRight xs r h right)

-- the answers of workers have what each of them has
pub All-answers : {T : Type 0} (answers : ℕ → T → Type 0) (P : T → Type 0) (n : ℕ)
    (values : List T) → ((i : ℕ) (x : T) → answers i x → P x)
    → AreOrderedAnswers answers n values → All P values
All-answers answers P n values has done = λ k d less.
    let answer = done.each k (omega (arith, less, done.len)) in
    subst P (sym (get_or_from_slice_get values k answer.0 d answer.1))
    (has k answer.0 answer.2)
