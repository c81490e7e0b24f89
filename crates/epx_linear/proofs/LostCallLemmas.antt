-- Instances marked as executed, by the places of their calls.
use Rattle.std.proofs.Common.{◌≡◌, ◌≢◌, ◌⊎◌, inl, inr, ℕ, suc, ◌<◌, Bool, true, false}
use Rattle.std.proofs.Common.{List, [], ◌∷◌, ◌++◌, length, map, get_or, set, replicate, Option}
use Rattle.std.proofs.Common.{Some, None, option_and_then, Contains, slice_get, refl, sym, ap, ap₂}
use Rattle.std.proofs.Common.{subst, ◌∙◌, zip, filter, arith}
use Rattle.epx_types.proofs.Common.{is_among, is_among-cases, Contains-append_left}
use Rattle.epx_types.proofs.Common.{Contains-append_right, Contains-append_cases, Contains-head}
use Rattle.epx_types.proofs.Common.{Contains-slice_get, slice_get-from_Contains}
use Rattle.epx_types.proofs.Common.{slice_get-from_map, slice_get-get_or, get_or_from_slice_get}
use Rattle.epx_types.proofs.Common.{Contains-cons_cases, Contains-nil, length-set, length-map}
use Rattle.epx_types.proofs.Common.{get_or-set_same, get_or-set_other, slice_get_within, cases_eq}
use Rattle.epx_types.proofs.Common.{length-replicate, get_or-replicate, cases_Bool}
use Rattle.epx_types.proofs.lists.ListPositionLemmas.{slice_get-map}
use Rattle.epx_lines.specs.DependencyList.{rising_ids}
use Rattle.epx_types.specs.declared.id.Id.{Id}
use Rattle.epx_linear.specs.declared.client_call.ClientCall.{ClientCall}
use Rattle.epx_linear.specs.ClientCalls.{IsHistory, HasCall, call_of, calls_at, calls_in}
use Rattle.epx_linear.specs.LinearTexts.{is_lost, lost_ids}
use Rattle.epx_linear.specs.inner.HistoryReadings.{called_ids}
use Rattle.epx_linear.specs.inner.MarkedCalls.{AreMarked, unmarked_ids}
use Rattle.epx_linear.proofs.RankLemmas.{call_of-found, call_of-finds, id-is_unique}
use Rattle.epx_linear.proofs.RankLemmas.{slice_get-place}

-- ---- marks

-- no call is marked
pub AreMarked-nil : (n : ℕ) → AreMarked n [] (replicate n false)
AreMarked-nil n = record {
  whole = length-replicate n false;
  each = λ j low. inr (
    slice_get-get_or (replicate n false) j false (omega (arith, low, length-replicate n false))
        ∙ ap Some (get_or-replicate n j false false low),
    Contains-nil (Some j),
  );
}

-- one more place
module _ (n : ℕ) (places : List (Option ℕ)) (place : Option ℕ) (marks : List Bool)
    (are : AreMarked n places marks) where
  earlier : (j : ℕ) → Contains places (Some j) → Contains (places ++ place ∷ []) (Some j)
  earlier j has = Contains-append_left places (place ∷ []) (Some j) has

  not_among : (j : ℕ) → place ≢ Some j → (¬ Contains places (Some j))
      → ¬ Contains (places ++ place ∷ []) (Some j)
  not_among j other none has =
      elim (Contains-append_cases places (place ∷ []) (Some j) has) [
        | inl old ↦ none old
        | inr new ↦ elim (Contains-cons_cases place [] (Some j) new) [
          | inl same ↦ other same
          | inr later ↦ Contains-nil (Some j) later
        ]
      ]

  -- no call is at it
  pub AreMarked-skip : ((j : ℕ) → j < n → place ≢ Some j) → AreMarked n (places ++ place ∷ []) marks
  AreMarked-skip other = record {
    whole = are.whole;
    each = λ j low. elim (are.each j low) [
      | inl there ↦ inl (there.0, earlier j there.1)
      | inr absent ↦ inr (absent.0, not_among j (other j low) absent.1)
    ];
  }

  -- the call at it is marked
  pub AreMarked-push : (k : ℕ) → place ≡ Some k → k < n
      → AreMarked n (places ++ place ∷ []) (set marks k true)
  AreMarked-push k is within = record {
    whole = length-set marks k true ∙ are.whole;
    each = λ j low. elim (cases_eq j k) [
      | inl same ↦ inl (
        slice_get-get_or (set marks k true) j false
            (omega (arith, low, are.whole, length-set marks k true))
            ∙ ap Some (ap (λ i. get_or (set marks k true) i false) same
            ∙ get_or-set_same marks k true false (omega (arith, within, are.whole))),
        subst (Contains (places ++ place ∷ [])) (is ∙ ap Some (sym same))
            (Contains-append_right places (place ∷ []) place (Contains-head place [])),
      )
      | inr other ↦ elim (are.each j low) [
        | inl there ↦ inl (kept j low other true there.0, earlier j there.1)
        | inr absent ↦ inr (
          kept j low other false absent.0,
          not_among j (λ e. let both : Some k ≡ Some j = sym is ∙ e in other (sym (cc both)))
              absent.1,
        )
      ]
    ];
  }
    where
      kept : (j : ℕ) → j < n → j ≢ k → (b : Bool) → slice_get marks j ≡ Some b
          → slice_get (set marks k true) j ≡ Some b
      kept j low other b read = slice_get-get_or (set marks k true) j false
          (omega (arith, low, are.whole, length-set marks k true))
          ∙ ap Some (get_or-set_other marks k j true false other
          ∙ get_or_from_slice_get marks j b false read)

-- ---- marks by the places of instances

module _ (h : List ClientCall) (history : IsHistory h) (places : List (Option ℕ)) (ids : List Id)
    (same : calls_at h places ≡ calls_in h ids) where
  -- the call at a place is that of one of the instances
  called_if_placed : (j : ℕ) (c : ClientCall) → slice_get h j ≡ Some c
      → Contains places (Some j) → Contains ids c.id
  called_if_placed j c at has =
      let from = slice_get-from_Contains places (Some j) has in
      let read : slice_get (calls_in h ids) from.0 ≡ Some (Some c) =
      subst (λ (l : List (Option ClientCall)). slice_get l from.0 ≡ Some (Some c)) same
      (slice_get-map (option_and_then (slice_get h)) places from.0 (Some j) from.1
      ∙ ap Some at) in
      let x = slice_get-from_map (call_of h) ids from.0 (Some c) read in
      subst (Contains ids) (sym (call_of-found h x.0 c x.2).1)
      (Contains-slice_get ids from.0 x.0 x.1)

  -- the call of an instance is at one of the places
  placed_if_called : (j : ℕ) (c : ClientCall) → slice_get h j ≡ Some c
      → Contains ids c.id → Contains places (Some j)
  placed_if_called j c at has =
      let from = slice_get-from_Contains ids c.id has in
      let read : HasCall (calls_at h places) from.0 c =
      subst (λ (l : List (Option ClientCall)). slice_get l from.0 ≡ Some (Some c)) (sym same)
      (slice_get-map (call_of h) ids from.0 c.id from.1
      ∙ ap Some (call_of-finds h history c (Contains-slice_get h j c at))) in
      let place = slice_get-place h places from.0 c read in
      let one : place.0 ≡ j = id-is_unique h history place.0 j c c place.2 at refl in
      subst (λ k. Contains places (Some k)) one
      (Contains-slice_get places from.0 (Some place.0) place.1)

  pub AreMarked-is_among : (marks : List Bool) → AreMarked (length h) places marks
      → marks ≡ map (is_among ids) (called_ids h)
  AreMarked-is_among marks are = by_positions marks (map (is_among ids) (called_ids h))
      (are.whole ∙ sym (length-map (called_ids h) (is_among ids)
      ∙ length-map h (λ (c : ClientCall). c.id))) (λ j b read.
      let low : j < length h = omega (arith, slice_get_within marks j b read, are.whole) in
      let c : ClientCall = get_or h j none in
      let at : slice_get h j ≡ Some c = slice_get-get_or h j none low in
      slice_get-map (is_among ids) (called_ids h) j c.id
      (slice_get-map (λ (c : ClientCall). c.id) h j c at)
      ∙ ap Some (elim (are.each j low) [
        | inl there ↦ among_yes c.id (called_if_placed j c at there.1)
            ∙ bit j true b there.0 read
        | inr absent ↦ among_no c.id (λ has. absent.1 (placed_if_called j c at has))
            ∙ bit j false b absent.0 read
      ]))
    where
      none : ClientCall
      none = record {
        id = record { replica = 0; number = 0 };
        invoked = 0;
        returned = None;
        answer = None;
      }

      among_yes : (x : Id) → Contains ids x → is_among ids x ≡ true
      among_yes x has = elim (is_among-cases ids x) [
        | inl found ↦ found.0
        | inr absent ↦ absurd (absent.1 has)
      ]

      among_no : (x : Id) → (¬ Contains ids x) → is_among ids x ≡ false
      among_no x absent = elim (is_among-cases ids x) [
        | inl found ↦ absurd (absent found.1)
        | inr not_there ↦ not_there.0
      ]

      bit : (j : ℕ) (a b : Bool) → slice_get marks j ≡ Some a → slice_get marks j ≡ Some b → a ≡ b
      bit j a b p q = let both : Some a ≡ Some b = sym p ∙ q in cc both

      by_positions : (xs ys : List Bool) → length xs ≡ length ys
          → ((j : ℕ) (b : Bool) → slice_get xs j ≡ Some b → slice_get ys j ≡ Some b) → xs ≡ ys
      by_positions [] [] len each = refl
      by_positions [] (y ∷ ys) len each = absurd (omega (arith, len))
      by_positions (x ∷ xs) [] len each = absurd (omega (arith, len))
      by_positions (x ∷ xs) (y ∷ ys) len each =
          let first : Some y ≡ Some x = each 0 x refl in
          let head : x ≡ y = sym (cc first) in
          ap₂ (λ b bs. b ∷ bs) head
          (by_positions xs ys (omega (arith, len)) (λ j b read. each (suc j) b read))

-- ---- calls with their marks

-- at the end of the calls or of the marks no calls are left
pub unmarked_ids-nil : (h : List ClientCall) (marks : List Bool)
    → (length h ≡ 0) ⊎ (length marks ≡ 0) → unmarked_ids (zip h marks) ≡ []
unmarked_ids-nil [] marks e = refl
unmarked_ids-nil (c ∷ h) [] e = refl
unmarked_ids-nil (c ∷ h) (b ∷ marks) (inl e) = absurd (cc e)
unmarked_ids-nil (c ∷ h) (b ∷ marks) (inr e) = absurd (cc e)

unmarked_are_lost : (ids : List Id) (h : List ClientCall)
    → unmarked_ids (zip h (map (is_among ids) (called_ids h)))
    ≡ map (λ c. c.id) (filter (is_lost ids) h)
unmarked_are_lost ids [] = refl
unmarked_are_lost ids (c ∷ h) =
    elim (cases_Bool (is_lost ids c)) [
      | inl lost ↦ rw lost (ap (λ xs. c.id ∷ xs) (unmarked_are_lost ids h))
      | inr kept ↦ rw kept (unmarked_are_lost ids h)
    ]

pub lost_ids-by_marks : (ids : List Id) (h : List ClientCall) (marks : List Bool) (lost : List Id)
    → marks ≡ map (is_among ids) (called_ids h) → lost ≡ rising_ids (unmarked_ids (zip h marks))
    → lost ≡ lost_ids ids h
lost_ids-by_marks ids h marks lost are_marks is =
    is ∙ ap (λ bs. rising_ids (unmarked_ids (zip h bs))) are_marks
    ∙ ap rising_ids (unmarked_are_lost ids h)
