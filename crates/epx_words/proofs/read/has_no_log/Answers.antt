use Rattle.std.proofs.Common.{◌≡◌, ◌∙◌, [], ◌∷◌, Bool, List, ap, codes, length, map, sym, true}
use Rattle.std.proofs.Common.{arith, eqb-true, refl, option_map, unwrap_or}
use Rattle.std.specs.Bool.{◌==◌}
use Rattle.clap.specs.Words.{found_of, rows_of}
use Rattle.clap.proofs.WalkLemmas.{raw_values-rows}
use Rattle.epx_words.specs.SubcommandRows.{logs_in}
use Rattle.epx_words.proofs.read.has_no_log.Goals as goal

-- a list is empty exactly if its elements' values are an empty list
is_empty : {A B : Type 0} (f : A → B) (xs : List A) (ys : List B) (empty : Bool)
    → empty ≡ (length xs == 0) → map f xs ≡ ys
    → (empty ≡ true → ys ≡ []) × (ys ≡ [] → empty ≡ true)
is_empty f [] ys empty is same = (λ e. sym same, λ e. is)
is_empty f (x ∷ xs) ys empty is same = (
  λ e. let none = eqb-true (length (x ∷ xs)) 0 (sym is ∙ e) in absurd (omega arith),
  λ e. cc,
)

pub returns-in-Some : goal.returns-in-Some
returns-in-Some c =
    let f = found_of c.args.matches.now in
    let logs_are : map (λ v. v.now) c.in-Some.logs.now ≡ logs_in (rows_of f) =
    ap (λ o. unwrap_or o []) (sym (ap (option_map (λ s. map (λ v. v.now) s.now)) c.in-Some.is)
    ∙ (c.get_strs.ensures ∙ raw_values-rows f (codes "logs"))) in
    is_empty (λ v. v.now) c.in-Some.logs.now (logs_in (rows_of f)) c.is_empty.result
    c.is_empty.ensures logs_are

pub returns-in-None : goal.returns-in-None
returns-in-None c =
    let f = found_of c.args.matches.now in
    let none_are : [] ≡ logs_in (rows_of f) =
    ap (λ o. unwrap_or o []) (sym (ap (option_map (λ s. map (λ v. v.now) s.now)) c.in-None.is)
    ∙ (c.get_strs.ensures ∙ raw_values-rows f (codes "logs"))) in
    (λ e. sym none_are, λ e. refl)
