use Rattle.std.proofs.Common.{◌≡◌, ◌∙◌, Some, ap, codes, get_or, inl, inr, length, map, sym, true}
use Rattle.std.proofs.Common.{arith, [], option_map, slice_get}
use Rattle.epx_types.proofs.Common.{length-map, slice_get-get_or, bytes_eq-Decides}
use Rattle.std.proofs.lemmas.Option.{slice_get-map}
use Rattle.epx_words.specs.Requests.{IsBare}
use Rattle.epx_words.proofs.read.is_bare.Goals as goal

pub returns-then-words-eq2 : goal.returns-then-words-eq2
returns-then-words-eq2 c =
    let words = c.args.words.now in
    let word = (get_or words 1 (record { ref_ptr = (0, 0); now = [] })).now in
    let two = c.if-words-eq2.true in
    let same : length (map (λ w. w.now) words) ≡ length words =
    length-map words (λ w. w.now) in
    let here : slice_get (map (λ w. w.now) words) 1 ≡ Some word =
    slice_get-map (λ w. w.now) words 1
    ∙ ap (option_map (λ w. w.now))
    (slice_get-get_or words 1 (record { ref_ptr = (0, 0); now = [] }) (omega (arith, two))) in
    let equal = bytes_eq-Decides word (codes "-") in
    let means : IsBare (map (λ w. w.now) words) → c.eq.result ≡ true = λ bare. elim bare [
      | inl short ↦ absurd (omega (arith, short, same, two))
      | inr hyphen ↦
          let both : Some word ≡ Some (codes "-") = sym here ∙ hyphen.1 in
          c.eq.ensures ∙ equal.1 (cc both)
    ] in
    (λ e. inr (same ∙ two, here ∙ ap Some (equal.0 (sym c.eq.ensures ∙ e))), means)
