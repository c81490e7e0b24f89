-- The part of a map that passes a test.
use Rattle.std.proofs.Common.{◌≡◌, ℕ, zero, suc, ◌+◌, ◌<◌, Bool, true, false, List, [], ◌∷◌, ◌++◌}
use Rattle.std.proofs.Common.{map, filter, take, get_or, slice_get, Some, Contains, IsTrue, cond}
use Rattle.std.proofs.Common.{refl, sym, ap, ap₂, ◌∙◌, inl, inr, flat_map, arith, length}
use Rattle.std.proofs.lemmas.Grind.{flat_map-append}
use Rattle.std.proofs.lemmas.List.{get_or-map}
use Rattle.std.proofs.lemmas.List.Elements.{filter_more}
use Rattle.epx_types.proofs.Common.{append-nil, append_assoc, cases_Bool, map-map, map-append}
use Rattle.epx_types.proofs.Common.{Contains-head, Contains-cons, slice_get_within}
use Rattle.epx_types.proofs.Common.{get_or_from_slice_get}
use Rattle.epx_types.proofs.Common.{Instance, ids_of}
use Rattle.epx_types.specs.declared.id.Id.{Id}
use Rattle.epx_picture.specs.PictureText.{arrow_lines}
use Rattle.epx_picture.specs.PicturesAround.{with_deps_near, part_near}

-- a filter after a map
pub filter-map : {X Y : Type 0} (f : X → Y) (p : Y → Bool) (xs : List X)
    → filter p (map f xs) ≡ map f (filter (λ x. p (f x)) xs)
filter-map f p [] = refl
filter-map f p (x ∷ xs) = elim (cases_Bool (p (f x))) [
  | inl kept ↦ rw kept (ap (λ ys. f x ∷ ys) (filter-map f p xs))
  | inr dropped ↦ rw dropped (filter-map f p xs)
]

-- if all elements pass, all are kept
pub filter-all : {X : Type 0} (p : X → Bool) (xs : List X)
    → ((x : X) → Contains xs x → IsTrue (p x)) → filter p xs ≡ xs
filter-all p [] all = refl
filter-all p (x ∷ xs) all =
    let kept : p x ≡ true = all x (Contains-head x xs) in
    rw kept (ap (λ ys. x ∷ ys) (filter-all p xs (λ y h. all y (Contains-cons x xs y h))))

-- one more element, which passes or not
module _ {X : Type 0} (p : X → Bool) (xs : List X) (n : ℕ) (x : X) (at : slice_get xs n ≡ Some x)
  where
    more : filter p (take (n + 1) xs) ≡ filter p (take n xs) ++ cond (p x) (x ∷ []) []
    more = filter_more p xs n x (slice_get_within xs n x at)
        ∙ ap (λ y. filter p (take n xs) ++ cond (p y) (y ∷ []) [])
        (get_or_from_slice_get xs n x x at)

    pub filter-more_yes : IsTrue (p x)
        → filter p (take (n + 1) xs) ≡ filter p (take n xs) ++ x ∷ []
    filter-more_yes passes = more ∙ ap (λ b. filter p (take n xs) ++ cond b (x ∷ []) []) passes

    pub filter-more_no : p x ≡ false → filter p (take (n + 1) xs) ≡ filter p (take n xs)
    filter-more_no fails = more ∙ ap (λ b. filter p (take n xs) ++ cond b (x ∷ []) []) fails
        ∙ append-nil (filter p (take n xs))

-- the lines of one more element, which passes
pub flat_map-lines_more : {X Y : Type 0} (f : X → List Y) (p : X → Bool) (xs : List X) (n : ℕ)
    (x : X)
    → slice_get xs n ≡ Some x → IsTrue (p x)
    → flat_map f (filter p (take (n + 1) xs)) ≡ flat_map f (filter p (take n xs)) ++ f x
flat_map-lines_more f p xs n x at passes =
    ap (flat_map f) (filter-more_yes p xs n x at passes)
    ∙ flat_map-append f (filter p (take n xs)) (x ∷ [])
    ∙ ap (λ ys. flat_map f (filter p (take n xs)) ++ ys) (append-nil (f x))

-- what is written after the lines so far
pub append-written : (text old before lines more all : List ℕ) → text ≡ old ++ more
    → old ≡ before ++ lines → all ≡ lines ++ more → text ≡ before ++ all
append-written text old before lines more all now was next =
    now ∙ ap (λ bytes. bytes ++ more) was ∙ append_assoc before lines more
    ∙ ap (λ bytes. before ++ bytes) (sym next)

-- a list has an element at each index within it
pub slice_get-exists : {X : Type 0} (xs : List X) (n : ℕ) → n < length xs
    → (x : X) × (slice_get xs n ≡ Some x)
slice_get-exists [] n within = absurd (omega arith)
slice_get-exists (x ∷ xs) zero within = (x, refl)
slice_get-exists (x ∷ xs) (suc n) within = slice_get-exists xs n (omega arith)

-- the mark of an element
pub get_or-mark : {X : Type 0} (p : X → Bool) (xs : List X) (marks : List Bool) → marks ≡ map p xs
    → (n : ℕ) (x : X) → slice_get xs n ≡ Some x → get_or marks n false ≡ p x
get_or-mark p xs marks same n x at =
    ap (λ bs. get_or bs n false) same
    ∙ get_or-map p xs n x false (slice_get_within xs n x at)
    ∙ ap p (get_or_from_slice_get xs n x x at)

module _ (near : Id → Bool) where
  -- the Ids of the part are those that pass
  pub ids_of-part_near : (m : List Instance) → ids_of (part_near near m) ≡ filter near (ids_of m)
  ids_of-part_near m =
      map-map (λ (e : Instance). e.id) (with_deps_near near) (filter (λ e. near e.id) m)
      ∙ sym (filter-map (λ (e : Instance). e.id) near m)

  module _ (m : List Instance) (n : ℕ) (e : Instance) (at : slice_get m n ≡ Some e) where
    -- the arrows of one more instance, which passes
    pub flat_map-arrows_more : IsTrue (near e.id)
        → flat_map arrow_lines (part_near near (take (n + 1) m))
        ≡ flat_map arrow_lines (part_near near (take n m)) ++ arrow_lines (with_deps_near near e)
    flat_map-arrows_more passes =
        let kept = filter (λ (i : Instance). near i.id) (take n m) in
        ap (λ es. flat_map arrow_lines (map (with_deps_near near) es))
        (filter-more_yes (λ (i : Instance). near i.id) m n e at passes)
        ∙ ap (flat_map arrow_lines) (map-append (with_deps_near near) kept (e ∷ []))
        ∙ flat_map-append arrow_lines (part_near near (take n m)) (with_deps_near near e ∷ [])
        ∙ ap (λ ys. flat_map arrow_lines (part_near near (take n m)) ++ ys)
        (append-nil (arrow_lines (with_deps_near near e)))

    -- one more instance, which does not pass
    pub part_near-same : near e.id ≡ false
        → part_near near (take (n + 1) m) ≡ part_near near (take n m)
    part_near-same fails =
        ap (map (with_deps_near near)) (filter-more_no (λ (i : Instance). near i.id) m n e at fails)

  -- the instance keeps its dependencies, if all pass
  pub with_deps_near-all : (e : Instance) → ((x : Id) → Contains e.deps x → IsTrue (near x))
      → with_deps_near near e ≡ e
  with_deps_near-all e all = ap (λ deps. record e { deps = deps }) (filter-all near e.deps all)

  -- if all instances and all their dependencies pass, the part is the whole map
  pub part_near-all : (m : List Instance) → ((e : Instance) → Contains m e → IsTrue (near e.id))
      → ((e : Instance) → Contains m e → (x : Id) → Contains e.deps x → IsTrue (near x))
      → part_near near m ≡ m
  part_near-all m ids deps = ap (map (with_deps_near near)) (filter-all (λ e. near e.id) m ids)
      ∙ same m deps where
        same : (es : List Instance)
            → ((e : Instance) → Contains es e → (x : Id) → Contains e.deps x → IsTrue (near x))
            → map (with_deps_near near) es ≡ es
        same [] all = refl
        same (e ∷ es) all = ap₂ (λ x xs. x ∷ xs) (with_deps_near-all e (all e (Contains-head e es)))
            (same es (λ i h. all i (Contains-cons e es i h)))
