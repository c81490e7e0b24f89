-- What lines commit, after one more line.
use Rattle.std.proofs.Common.{◌≡◌, ◌∙◌, ℕ, zero, suc, Bool, true, false, cond, not, ◌||◌, ◌&&◌}
use Rattle.std.proofs.Common.{List, [], ◌∷◌, ◌++◌, Some, refl, sym, ap, slice_get, filter}
use Rattle.std.proofs.Common.{append-nil, append_assoc}
use Rattle.epx_types.proofs.Common.{list_any, AllZip, filter-append, list_any-from_Contains}
use Rattle.epx_types.proofs.Common.{Instance, Placed}
use Rattle.std.specs.List.{Contains}
use Rattle.std.proofs.lemmas.Map.Views.{any-filter_same}
use Rattle.indexmap.specs.IndexSet.{insert_key}
use Rattle.indexmap.proofs.SetLemmas.{AllZip-push}
use Rattle.epx_versions.specs.LineVersions.{versions_of}
use Rattle.epx_versions.specs.SameInstances.{same_instance}
use Rattle.epx_versions.specs.inner.EqualVersions.{same_instance-equal, same_instance_equiv}
use Rattle.epx_versions.specs.between.NotedRows.{IsRowOf}
use Rattle.epx_versions.specs.declared.noted.NotedLine.{NotedLine}

module _ (a x : Instance) (ks : List Instance) where
  -- x is among the instances other than a if it is among all and is not a
  among_others : list_any (same_instance x) (filter (λ d. not (same_instance a d)) ks)
      ≡ (not (same_instance a x) && list_any (same_instance x) ks)
  among_others = any-filter_same (same_instance x) (λ d. not (same_instance a d))
      (not (same_instance a x))
      (λ d same. ap (λ y. not (same_instance a y)) (sym (same_instance-equal x d same))) ks

  insert_cases : (b c : Bool) → same_instance a x ≡ b
      → a ∷ filter (λ d. not (same_instance a d)) (cond c ks (ks ++ x ∷ []))
      ≡ cond (b || (not b && c)) (a ∷ filter (λ d. not (same_instance a d)) ks)
      ((a ∷ filter (λ d. not (same_instance a d)) ks) ++ x ∷ [])
  insert_cases true true h = refl
  insert_cases false true h = refl
  insert_cases true false h =
      let kept = filter (λ d. not (same_instance a d)) ks in
      ap (λ ds. a ∷ ds) (filter-append (λ d. not (same_instance a d)) ks (x ∷ [])
      ∙ (ap (λ b. kept ++ cond (not b) (x ∷ []) []) h ∙ append-nil kept))
  insert_cases false false h =
      let kept = filter (λ d. not (same_instance a d)) ks in
      ap (λ ds. a ∷ ds) (filter-append (λ d. not (same_instance a d)) ks (x ∷ [])
      ∙ ap (λ b. kept ++ cond (not b) (x ∷ []) []) h)

  -- x is inserted before a goes in front, or after
  insert_behind : a ∷ filter (λ d. not (same_instance a d)) (insert_key same_instance ks x)
      ≡ insert_key same_instance (a ∷ filter (λ d. not (same_instance a d)) ks) x
  insert_behind =
      let kept = a ∷ filter (λ d. not (same_instance a d)) ks in
      let test : (same_instance x a
      || list_any (same_instance x) (filter (λ d. not (same_instance a d)) ks))
      ≡ (same_instance a x || (not (same_instance a x) && list_any (same_instance x) ks)) =
      λ i. same_instance_equiv.symm x a i || among_others i in
      insert_cases (same_instance a x) (list_any (same_instance x) ks) refl
      ∙ sym (ap (λ b. cond b kept (kept ++ x ∷ [])) test)

-- one more line adds what it commits, if no line before commits the same
pub versions_of-snoc : (lines : List Placed) (p : Placed) → versions_of (lines ++ p ∷ [])
    ≡ insert_key same_instance (versions_of lines) p.instance
versions_of-snoc [] p = refl
versions_of-snoc (q ∷ lines) p =
    ap (λ ks. q.instance ∷ filter (λ e. not (same_instance q.instance e)) ks)
    (versions_of-snoc lines p) ∙ insert_behind q.instance p.instance (versions_of lines)

-- a line that commits what one before it does adds nothing
pub versions_of-repeat : (lines : List Placed) (p : Placed)
    → Contains (versions_of lines) p.instance → versions_of (lines ++ p ∷ []) ≡ versions_of lines
versions_of-repeat lines p among =
    versions_of-snoc lines p ∙ ap
    (λ b. cond b (versions_of lines) (versions_of lines ++ p.instance ∷ []))
    (list_any-from_Contains same_instance_equiv p.instance (versions_of lines) among)

-- an element stays where it is when a list grows
pub slice_get-grown : {X : Type 0} (xs ys : List X) (i : ℕ) (x : X) → slice_get xs i ≡ Some x
    → slice_get (xs ++ ys) i ≡ Some x
slice_get-grown [] ys i x h = absurd (cc h)
slice_get-grown (y ∷ xs) ys zero x h = h
slice_get-grown (y ∷ xs) ys (suc i) x h = slice_get-grown xs ys i x h

keeps_numbers : (b : Bool) (ks : List Instance) (x e : Instance) (i : ℕ)
    → slice_get ks i ≡ Some e → slice_get (cond b ks (ks ++ x ∷ [])) i ≡ Some e
keeps_numbers true ks x e i h = h
keeps_numbers false ks x e i h = slice_get-grown ks (x ∷ []) i e h

-- one more line leaves the numbers of the versions
numbers_kept : (lines : List Placed) (p : Placed) (i : ℕ) (e : Instance)
    → slice_get (versions_of lines) i ≡ Some e
    → slice_get (versions_of (lines ++ p ∷ [])) i ≡ Some e
numbers_kept lines p i e h = ap (λ ks. slice_get ks i) (versions_of-snoc lines p)
    ∙ keeps_numbers (list_any (same_instance p.instance) (versions_of lines))
    (versions_of lines) p.instance e i h

-- more lines leave the numbers of the versions
pub versions_of-grows : (lines more : List Placed) (i : ℕ) (e : Instance)
    → slice_get (versions_of lines) i ≡ Some e
    → slice_get (versions_of (lines ++ more)) i ≡ Some e
versions_of-grows lines [] i e h =
    ap (λ ls. slice_get (versions_of ls) i) (append-nil lines) ∙ h
versions_of-grows lines (p ∷ more) i e h =
    ap (λ ls. slice_get (versions_of ls) i) (sym (append_assoc lines (p ∷ []) more))
    ∙ versions_of-grows (lines ++ p ∷ []) more i e (numbers_kept lines p i e h)

rows_kept : (old new : List Instance)
    → ((i : ℕ) (e : Instance) → slice_get old i ≡ Some e → slice_get new i ≡ Some e)
    → (rows : List NotedLine) (lines : List Placed) → AllZip (IsRowOf old) rows lines
    → AllZip (IsRowOf new) rows lines
rows_kept old new kept [] [] rel = tt
rows_kept old new kept [] (p ∷ lines) rel = absurd rel
rows_kept old new kept (row ∷ rows) [] rel = absurd rel
rows_kept old new kept (row ∷ rows) (p ∷ lines) rel = (
  record { place = rel.0.place; version = kept row.version p.instance rel.0.version },
  rows_kept old new kept rows lines rel.1,
)

-- the rows of the lines, and one for a further line, with the number of what it commits
pub rows-snoc : (rows : List NotedLine) (lines : List Placed) (row : NotedLine) (p : Placed)
    → AllZip (IsRowOf (versions_of lines)) rows lines → row.place ≡ p.place
    → slice_get (versions_of (lines ++ p ∷ [])) row.version ≡ Some p.instance
    → AllZip (IsRowOf (versions_of (lines ++ p ∷ []))) (rows ++ row ∷ []) (lines ++ p ∷ [])
rows-snoc rows lines row p rel place version =
    let all = versions_of (lines ++ p ∷ []) in
    AllZip-push (IsRowOf all) rows lines row p
    (rows_kept (versions_of lines) all (numbers_kept lines p) rows lines rel)
    (record { place = place; version = version })
