-- One more element of a list whose lines are appended.
use Rattle.std.proofs.Common.{◌≡◌, ℕ, ◌+◌, ◌-◌, ◌≤◌, List, [], ◌∷◌, ◌++◌, take, drop, flat_map}
use Rattle.std.proofs.Common.{get_or, slice_get, slice_range, Some, ap, ◌∙◌, arith}
use Rattle.std.proofs.lemmas.Grind.{flat_map-append}
use Rattle.epx_types.proofs.Common.{append-nil, take_more, slice_get_within, get_or_from_slice_get}
use Rattle.epx_types.proofs.Common.{slice_get-get_or, get_or-drop, length-drop}

pub flat_map-next : {X Y : Type 0} (f : X → List Y) (xs : List X) (n : ℕ) (x : X)
    → slice_get xs n ≡ Some x → flat_map f (take (n + 1) xs) ≡ flat_map f (take n xs) ++ f x
flat_map-next {X} f xs n x at =
    let last : get_or xs n x ≡ x = get_or_from_slice_get xs n x x at in
    let next = take_more xs n x (slice_get_within xs n x at)
    ∙ ap (λ (y : X). take n xs ++ y ∷ []) last in
    ap (flat_map f) next ∙ flat_map-append f (take n xs) (x ∷ [])
    ∙ ap (λ zs. flat_map f (take n xs) ++ zs) (append-nil (f x))

pub flat_map-next_of_range : {X Y : Type 0} (f : X → List Y) (xs : List X) (start n : ℕ) (x : X)
    → start ≤ n → slice_get xs n ≡ Some x
    → flat_map f (slice_range xs start (n + 1)) ≡ flat_map f (slice_range xs start n) ++ f x
flat_map-next_of_range f xs start n x low at =
    let within = slice_get_within xs n x at in
    let place : start + (n - start) ≡ n = omega arith in
    let there : slice_get (drop start xs) (n - start) ≡ Some x =
    slice_get-get_or (drop start xs) (n - start) x (omega (arith, length-drop start xs))
    ∙ ap Some (get_or-drop start xs (n - start) x ∙ ap (λ i. get_or xs i x) place
    ∙ get_or_from_slice_get xs n x x at) in
    let one : (n + 1) - start ≡ (n - start) + 1 = omega arith in
    ap (λ k. flat_map f (take k (drop start xs))) one
    ∙ flat_map-next f (drop start xs) (n - start) x there
