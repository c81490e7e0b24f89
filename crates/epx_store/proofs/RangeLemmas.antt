-- Lists that are cut in two, and put together again.
use Rattle.std.proofs.Common.{◌≡◌, ◌∙◌, ◌+◌, ◌-◌, ◌<◌, ◌≤◌, ℕ, suc, T, List, [], ◌∷◌, ◌++◌, Some}
use Rattle.std.proofs.Common.{take, append_assoc, append-nil, flat_map, refl, subst, sym, ap, ap₂}
use Rattle.std.proofs.Common.{arith, length, get_or, set, map, option_map, IsPermutation}
use Rattle.epx_types.proofs.Common.{is_sorted, below_all, is_lt, Less, IsPermutation-append_right}
use Rattle.epx_types.proofs.Common.{IsPermutation-trans, length-map, take_all, take_more}
use Rattle.epx_types.proofs.Common.{take_more_set, key_cmp, and-first, and-second, Less-from_is_lt}
use Rattle.std.specs.List.{slice_get}
use Rattle.std.proofs.lemmas.Grind.{flat_map-append}
use Rattle.std.proofs.lemmas.List.Sorted.{IsPermutation-append}
use Rattle.std.proofs.lemmas.List.Sorted.{IsPermutation-append_comm, IsPermutation-append_left}
use Rattle.std.proofs.lemmas.Option.{slice_get-map}
use Rattle.epx_store.specs.inner.Rises.{AreBelow}
use Rattle.epx_store.proofs.RisingEntryLemmas.{T-both, below_all-trans}

module _ {X : Type 0} where
  -- the first two of three lists change places
  pub IsPermutation-swap : (xs ys zs : List X) → IsPermutation (xs ++ (ys ++ zs)) (ys ++ (xs ++ zs))
  IsPermutation-swap xs ys zs =
      subst (λ l. IsPermutation l (ys ++ (xs ++ zs))) (append_assoc xs ys zs)
      (subst (IsPermutation ((xs ++ ys) ++ zs)) (append_assoc ys xs zs)
      (IsPermutation-append_left zs _ _ (IsPermutation-append_comm xs ys)))

  -- the inner two of four lists change places
  inner_exchanged : (ws xs ys zs : List X)
      → IsPermutation ((ws ++ xs) ++ (ys ++ zs)) ((ws ++ ys) ++ (xs ++ zs))
  inner_exchanged ws xs ys zs =
      subst (λ l. IsPermutation l ((ws ++ ys) ++ (xs ++ zs)))
      (sym (append_assoc ws xs (ys ++ zs)))
      (subst (IsPermutation (ws ++ (xs ++ (ys ++ zs)))) (sym (append_assoc ws ys (xs ++ zs)))
      (IsPermutation-append_right ws _ _ (IsPermutation-swap xs ys zs)))

  -- one more of the lists is cut in two
  pub IsPermutation-cut_more : {B : Type 0} (items : B → List X) (lists lows highs : List B)
      (n : ℕ) (list low high : B) → n < length lists → n < length lows → n < length highs
      → list ≡ get_or lists n list → items low ++ items high ≡ items list
      → IsPermutation (flat_map items (take n lists))
      (flat_map items (take n lows) ++ flat_map items (take n highs))
      → IsPermutation (flat_map items (take (n + 1) lists))
      (flat_map items (take (n + 1) (set lows n low))
      ++ flat_map items (take (n + 1) (set highs n high)))
  IsPermutation-cut_more {B = B} items lists lows highs n list low high a b c at parts so_far =
      let add : (ls : List B) (l : B) → flat_map items (ls ++ l ∷ []) ≡ flat_map items ls ++ items l
      = λ ls l. flat_map-append items ls (l ∷ []) ∙ ap (λ k. flat_map items ls ++ k)
      (append-nil (items l)) in
      let here : items (get_or lists n list) ≡ items low ++ items high =
      ap items (sym at) ∙ sym parts in
      subst (λ l. IsPermutation l (flat_map items (take (n + 1) (set lows n low))
      ++ flat_map items (take (n + 1) (set highs n high))))
      (sym (ap (flat_map items) (take_more lists n list a)
      ∙ add (take n lists) (get_or lists n list)
      ∙ ap (λ h. flat_map items (take n lists) ++ h) here))
      (subst (IsPermutation (flat_map items (take n lists) ++ (items low ++ items high)))
      (sym (ap₂ ◌++◌ (ap (flat_map items) (take_more_set lows n low b) ∙ add (take n lows) low)
      (ap (flat_map items) (take_more_set highs n high c) ∙ add (take n highs) high)))
      (IsPermutation-trans _ _ _
      (IsPermutation-append_left (items low ++ items high) _ _ so_far)
      (inner_exchanged (flat_map items (take n lows)) (flat_map items (take n highs))
      (items low) (items high))))

  -- all lists are cut in two
  pub IsPermutation-cut_all : {B : Type 0} (items : B → List X) (lists lows highs : List B) (n : ℕ)
      → length lists ≤ n → length lows ≤ n → length highs ≤ n
      → IsPermutation (flat_map items (take n lists))
      (flat_map items (take n lows) ++ flat_map items (take n highs))
      → IsPermutation (flat_map items lists) (flat_map items lows ++ flat_map items highs)
  IsPermutation-cut_all items lists lows highs n a b c h =
      rw (take_all n lists a, take_all n lows b, take_all n highs c) at h

  -- both parts are moved, and put together again
  pub IsPermutation-joined : (xs ys zs us vs ws : List X) → IsPermutation xs (ys ++ zs)
      → IsPermutation ys us
      → IsPermutation zs vs → ws ≡ us ++ vs → IsPermutation xs ws
  IsPermutation-joined xs ys zs us vs ws cut first second is =
      subst (IsPermutation xs) (sym is)
      (IsPermutation-trans _ _ _ cut (IsPermutation-append _ _ _ _ first second))

-- ---- ranges one after another

module _ {X : Type 0} where
  -- a key that is below the first of rising keys is below all
  below_rising : (k : List ℕ) (fs : List (List ℕ × X)) → T (is_sorted key_cmp fs)
      → ((f : List ℕ × X) → slice_get fs 0 ≡ Some f → key_cmp k f.0 ≡ Less)
      → T (below_all key_cmp k fs)
  below_rising k [] rises below = tt
  below_rising k (f ∷ fs) rises below =
      T-both _ _ (subst T (sym (ap is_lt (below f refl))) tt)
      (below_all-trans k f.0 fs (below f refl)
      (and-first (below_all key_cmp f.0 fs) (is_sorted key_cmp fs) rises))

  -- rising keys, and then rising keys above them
  pub rises-joined : (es fs : List (List ℕ × X)) → T (is_sorted key_cmp es)
      → T (is_sorted key_cmp fs) → AreBelow es fs → T (is_sorted key_cmp (es ++ fs))
  rises-joined [] fs rises rise below = rise
  rises-joined (e ∷ []) fs rises rise below =
      T-both _ _ (below_rising e.0 fs rise (λ f at. below 0 e f refl refl at)) rise
  rises-joined (e ∷ d ∷ es) fs rises rise below =
      let rest = rises-joined (d ∷ es) fs
      (and-second (below_all key_cmp e.0 (d ∷ es)) (is_sorted key_cmp (d ∷ es)) rises) rise
      (λ n c f len at first. below (suc n) c f (omega (arith, len)) at first) in
      let next : key_cmp e.0 d.0 ≡ Less = Less-from_is_lt (key_cmp e.0 d.0)
      (and-first (is_lt (key_cmp e.0 d.0)) (below_all key_cmp e.0 es)
      (and-first (below_all key_cmp e.0 (d ∷ es)) (is_sorted key_cmp (d ∷ es)) rises)) in
      T-both _ _ (below_rising e.0 (d ∷ (es ++ fs)) rest
      (λ f first.
      let same : d ≡ f = cc first in
      subst (λ (g : List ℕ × X). key_cmp e.0 g.0 ≡ Less) same next)) rest

  -- the ends of two lists show that the keys of the first are below those of the second
  pub AreBelow-from_ends : {A : Type 0} (shown : A → List ℕ × X) (xs ys : List A) (x y : A)
      → slice_get xs (length xs - 1) ≡ Some x → slice_get ys 0 ≡ Some y
      → key_cmp (shown x).0 (shown y).0 ≡ Less → AreBelow (map shown xs) (map shown ys)
  AreBelow-from_ends shown xs ys x y last first less n e f len at here =
      let place : length xs - 1 ≡ n = omega (arith, len, length-map xs shown) in
      let ends : e ≡ shown x =
      cc (sym at ∙ slice_get-map shown xs n ∙ ap (option_map shown)
      (ap (slice_get xs) (sym place) ∙ last)) in
      let begins : f ≡ shown y =
      cc (sym here ∙ slice_get-map shown ys 0 ∙ ap (option_map shown) first) in
      ap₂ (λ d g. key_cmp d.0 g.0) ends begins ∙ less
