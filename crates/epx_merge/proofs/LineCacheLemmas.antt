-- The meanings of the lines in a cache.
use Rattle.std.proofs.Common.{Bor, ◌≡◌, ◌∙◌, ◌<◌, ◌∷◌, ◌++◌, ℕ, Bool, true, false, List, [], map}
use Rattle.std.proofs.Common.{length, get_or, slice_get, Contains, Result, Some, sym, ap, subst}
use Rattle.std.proofs.Common.{if◌then◌else◌, inl, inr}
use Rattle.epx_types.proofs.Common.{Contains-append_cases, slice_get-get_or, Contains-nil}
use Rattle.epx_types.proofs.Common.{Contains-cons_cases}
use Rattle.epx_types.specs.declared.fault.Why.{Why}
use Rattle.epx_types.proofs.lists.ListPositionLemmas.{slice_get-map}
use Rattle.epx_lines.specs.Meaning.{meaning_of}
use Rattle.epx_lines.specs.declared.Line.{Line}
use Rattle.epx_merge.specs.between.RedundantLines.{CachesAfter}

abbrev Lines : Type 0
Lines = List (Bor (List ℕ))

abbrev meaning_in : Bor (List ℕ) → Result Line Why
meaning_in line = meaning_of line.now

-- a line with these bytes is at this index
pub slice_get-meaning_in : (lines : Lines) (i : ℕ) (line : Bor (List ℕ)) (bytes : List ℕ)
    → i < length lines
    → line ≡ get_or lines i line → line.now ≡ bytes
    → slice_get (map meaning_in lines) i ≡ Some (meaning_of bytes)
slice_get-meaning_in lines i line bytes within is same =
    slice_get-map meaning_in lines i line (slice_get-get_or lines i line within
    ∙ ap (λ (l : Bor (List ℕ)). Some l) (sym is)) ∙ ap (λ b. Some (meaning_of b)) same

-- a cache that perhaps has one more line
pub CachesAfter-kept : (kept : Bool) (old new : List (Result Line Why)) (m : Result Line Why)
    → new ≡ (if kept then old ++ m ∷ [] else old) → CachesAfter old m new
CachesAfter-kept true old new m is = λ x has.
    elim (Contains-append_cases old (m ∷ []) x (subst (λ c. Contains c x) is has)) [
      | inl older ↦ inl older
      | inr last ↦ elim (Contains-cons_cases m [] x last) [
        | inl same ↦ inr (sym same)
        | inr none ↦ absurd (Contains-nil x none)
      ]
    ]
CachesAfter-kept false old new m is = λ x has. inl (subst (λ c. Contains c x) is has)
