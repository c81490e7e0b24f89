-- What a search from Id to Id finds.
use Rattle.std.proofs.Common.{◌≡◌, ◌⊎◌, ◌↔◌, ℕ, ◌+◌, ◌<◌, ◌≤◌, List, [], ◌∷◌, ◌++◌, length, get_or}
use Rattle.std.proofs.Common.{take, Contains, refl, sym, ap, subst, inl, inr, ◌∙◌, arith, Bool}
use Rattle.std.proofs.Common.{true, false, cond, not, IsTrue}
use Rattle.std.specs.BTreeSet as sorted
use Rattle.std.specs.BTreeSet.{BTreeSet}
use Rattle.epx_types.proofs.Common.{append-nil, append_assoc, length-append, take-append-le}
use Rattle.epx_types.proofs.Common.{take_all, take_more, Contains-append_cases}
use Rattle.epx_types.proofs.Common.{Contains-append_left, Contains-append_right, id_cmp, Id-cases}
use Rattle.epx_types.proofs.Common.{id_cmp-IsTotalOrder, id_cmp-IsAntisymmetric}
use Rattle.epx_types.proofs.Common.{Contains-cons_cases}
use Rattle.epx_types.proofs.Common.{Contains-head, Contains-nil}
use Rattle.epx_types.specs.declared.id.Id.{Id}
use Rattle.std.proofs.lemmas.Map.Keys.{IsDistinct-from_sorted}
use Rattle.std.proofs.lemmas.Map.Views.{btree_set_contains_iff}
use Rattle.epx_executor.specs.inner.Filings.{AreAppended, AreSeen, Filings, IsBehind, IsFiled}
use Rattle.epx_executor.proofs.FilingLemmas.{IsFiled-under, IsBehind-closed}
use Rattle.epx_executor.proofs.FilingLemmas.{length-le_from_filed}
use Rattle.epx_executor.proofs.FilingMapLemmas.{is_at-apart}

-- ---- what a search found

-- one more Id, which was not seen
module _ (seen more : BTreeSet Id) (found : List Id) (id : Id) (are : AreSeen seen found)
    (order : sorted.IsOrdered id_cmp more) where
  seen_before : sorted.Updates id_cmp seen more id true → (x : Id) → Contains more.keys x
      → ¬ (x ≡ id) → Contains seen.keys x
  seen_before updates x h apart =
      let is : IsTrue (sorted.contains id_cmp more x) =
      (btree_set_contains_iff id_cmp-IsTotalOrder id_cmp-IsAntisymmetric more x).1 h in
      let same : sorted.contains id_cmp more x ≡ sorted.contains id_cmp seen x =
      updates.0 x ∙ ap (λ (b : Bool). cond b true (sorted.contains id_cmp seen x))
      (is_at-apart id x apart) in
      (btree_set_contains_iff id_cmp-IsTotalOrder id_cmp-IsAntisymmetric seen x).0 (sym same ∙ is)

  pub AreSeen-more : sorted.Updates id_cmp seen more id true
      → length more.keys ≡ length seen.keys + 1 → AreSeen more (found ++ id ∷ [])
  AreSeen-more updates one = record {
    order = order;
    same = λ x h. elim (Id-cases x id) [
      | inl e ↦ Contains-append_right found (id ∷ []) x
          (subst (Contains (id ∷ [])) (sym e) (Contains-head id []))
      | inr apart ↦ Contains-append_left found (id ∷ []) x
          (are.same x (seen_before updates x h apart))
    ];
    count = omega (arith, are.count, one, length-append found (id ∷ []));
  }

pub true-from_not : (b c : Bool) → c ≡ not b → c ≡ false → b ≡ true
true-from_not true c e f = refl
true-from_not false c e f = absurd (cc (e, f))

pub Contains-seen : (seen : BTreeSet Id) (found : List Id) (x : Id) → AreSeen seen found
    → sorted.contains id_cmp seen x ≡ true → Contains found x
Contains-seen seen found x are h =
    are.same x ((btree_set_contains_iff id_cmp-IsTotalOrder id_cmp-IsAntisymmetric seen x).0 h)

-- what is found is at most as much as what is filed
pub length-le_from_found : (filings : Filings) (seen : BTreeSet Id) (found : List Id)
    → AreSeen seen found → ((x : Id) → Contains found x → IsFiled filings x)
    → length found ≤ length filings
length-le_from_found filings seen found are filed =
    let le = length-le_from_filed filings seen.keys (IsDistinct-from_sorted id_cmp seen.keys
    are.order) (λ x h. filed x (are.same x h)) in
    omega (arith, le, are.count)

-- ---- lists to which Ids are appended

-- if all with P are in the list, nothing is appended
pub AreAppended-none : (P : Id → Type 0) (old : List Id) → ((x : Id) → P x → Contains old x)
    → AreAppended P old old
AreAppended-none P old there = record {
  more = [];
  appended = sym (append-nil old);
  only = λ x h. absurd (Contains-nil x h);
  whole = there;
}

-- Ids with P are appended, then those with Q: so those with R, which are the Ids with P or Q
pub AreAppended-both : (P Q R : Id → Type 0) (old middle new : List Id) → AreAppended P old middle
    → AreAppended Q middle new → ((x : Id) → P x → R x) → ((x : Id) → Q x → R x)
    → ((x : Id) → R x → P x ⊎ Q x) → AreAppended R old new
AreAppended-both P Q R old middle new first second p q r = record {
  more = first.more ++ second.more;
  appended = second.appended ∙ ap (λ (xs : List Id). xs ++ second.more) first.appended
      ∙ append_assoc old first.more second.more;
  only = λ x h. elim (Contains-append_cases first.more second.more x h) [
    | inl k ↦ p x (first.only x k)
    | inr k ↦ q x (second.only x k)
  ];
  whole = λ x h. elim (r x h) [
    | inl k ↦ subst (λ (xs : List Id). Contains xs x) (sym second.appended)
        (Contains-append_left middle second.more x (first.whole x k))
    | inr k ↦ second.whole x k
  ];
}

AreAppended-same : (P R : Id → Type 0) (old new : List Id) → AreAppended P old new
    → ((x : Id) → P x ↔ R x) → AreAppended R old new
AreAppended-same P R old new are same = record {
  more = are.more;
  appended = are.appended;
  only = λ x h. (same x).0 (are.only x h);
  whole = λ x h. are.whole x ((same x).1 h);
}

pub Contains-take_more : (xs : List Id) (k : ℕ) (d : Id) → k < length xs → (x : Id)
    → Contains (take (k + 1) xs) x ↔ (Contains (take k xs) x ⊎ (x ≡ get_or xs k d))
Contains-take_more xs k d within x = (there, back) where
  there : Contains (take (k + 1) xs) x → Contains (take k xs) x ⊎ (x ≡ get_or xs k d)
  there h =
      let t = take_more xs k d within in
      elim (Contains-append_cases (take k xs) (get_or xs k d ∷ []) x (rw t at h)) [
        | inl early ↦ inl early
        | inr late ↦ elim (Contains-cons_cases (get_or xs k d) [] x late) [
          | inl e ↦ inr (sym e)
          | inr none ↦ absurd (Contains-nil x none)
        ]
      ]

  back : Contains (take k xs) x ⊎ (x ≡ get_or xs k d) → Contains (take (k + 1) xs) x
  back (inl h) =
      let t = take_more xs k d within in
      rw t (Contains-append_left (take k xs) (get_or xs k d ∷ []) x h)
  back (inr e) =
      let t = take_more xs k d within in
      rw t (Contains-append_right (take k xs) (get_or xs k d ∷ []) x
      (subst (Contains (get_or xs k d ∷ [])) (sym e) (Contains-head (get_or xs k d) [])))

-- ---- what is filed under an Id, by the list for it

abbrev pub IsAmongFiled : Filings → Id → List Id → Id → Type 0
IsAmongFiled filings under list x = Contains list x × Contains filings (x, under)

module _ (filings : Filings) (under : Id) (list : List Id) (k : ℕ) (d : Id)
    (within : k < length list) (old middle : List Id)
    (first : AreAppended (IsAmongFiled filings under (take k list)) old middle) where
  pub AreAppended-filed : (new : List Id) → Contains filings (get_or list k d, under)
      → AreAppended (λ x. x ≡ get_or list k d) middle new
      → AreAppended (IsAmongFiled filings under (take (k + 1) list)) old new
  AreAppended-filed new filed second =
      AreAppended-both (IsAmongFiled filings under (take k list)) (λ x. x ≡ get_or list k d)
      (IsAmongFiled filings under (take (k + 1) list)) old middle new first second
      (λ x h. ((Contains-take_more list k d within x).1 (inl h.0), h.1))
      (λ x e. (
        (Contains-take_more list k d within x).1 (inr e),
        subst (λ (z : Id). Contains filings (z, under)) (sym e) filed,
      ))
      (λ x h. elim ((Contains-take_more list k d within x).0 h.0) [
        | inl early ↦ inl (early, h.1)
        | inr e ↦ inr e
      ])

  pub AreAppended-not_filed : ¬ Contains filings (get_or list k d, under)
      → AreAppended (IsAmongFiled filings under (take (k + 1) list)) old middle
  AreAppended-not_filed not_filed =
      AreAppended-same (IsAmongFiled filings under (take k list))
      (IsAmongFiled filings under (take (k + 1) list)) old middle first
      (λ x. (
        λ h. ((Contains-take_more list k d within x).1 (inl h.0), h.1),
        λ h. elim ((Contains-take_more list k d within x).0 h.0) [
          | inl early ↦ (early, h.1)
          | inr e ↦ absurd (not_filed (subst (λ (z : Id). Contains filings (z, under)) e h.1))
        ],
      ))

-- the whole list
pub AreAppended-listed : (filings : Filings) (under : Id) (list part old new : List Id)
    → part ≡ list → ((x : Id) → Contains filings (x, under) → Contains list x)
    → AreAppended (IsAmongFiled filings under part) old new
    → AreAppended (λ x. Contains filings (x, under)) old new
AreAppended-listed filings under list part old new all listed are =
    AreAppended-same (IsAmongFiled filings under part) (λ x. Contains filings (x, under)) old new
    are (λ x. (
      λ h. h.1,
      λ h. (subst (λ (xs : List Id). Contains xs x) (sym all) (listed x h), h),
    ))

-- ---- what is filed under the first of some Ids

abbrev pub IsUnderOne : Filings → List Id → Id → Type 0
IsUnderOne filings ids x = (y : Id) × Contains ids y × Contains filings (x, y)

pub AreAppended-under : (filings : Filings) (ids : List Id) (k : ℕ) (d : Id) → k < length ids
    → (old middle new : List Id) → AreAppended (IsUnderOne filings (take k ids)) old middle
    → AreAppended (λ x. Contains filings (x, get_or ids k d)) middle new
    → AreAppended (IsUnderOne filings (take (k + 1) ids)) old new
AreAppended-under filings ids k d within old middle new first second =
    AreAppended-both (IsUnderOne filings (take k ids))
    (λ x. Contains filings (x, get_or ids k d)) (IsUnderOne filings (take (k + 1) ids)) old
    middle new first second
    (λ x h. (h.0, (Contains-take_more ids k d within h.0).1 (inl h.1), h.2))
    (λ x h. (get_or ids k d, (Contains-take_more ids k d within (get_or ids k d)).1 (inr refl), h))
    (λ x h. elim ((Contains-take_more ids k d within h.0).0 h.1) [
      | inl early ↦ inl (h.0, early, h.2)
      | inr e ↦ inr (subst (λ (z : Id). Contains filings (x, z)) e h.2)
    ])

-- ---- a search from Id to Id

-- what is filed under one of the Ids is found, and what is filed under one of the first ones found
pub record IsSearched (filings : Filings) (ids found : List Id) (next : ℕ) : Type 0 where
  pub within : next ≤ length found
  pub filed : (x : Id) → Contains found x → IsFiled filings x
  pub first : (x y : Id) → Contains filings (x, y) → Contains ids y → Contains found x
  pub later : (x y : Id) → Contains filings (x, y) → Contains (take next found) y
      → Contains found x

module _ (filings : Filings) (ids : List Id) where
  pub IsSearched-first : (part found : List Id) → part ≡ ids
      → AreAppended (IsUnderOne filings part) [] found → IsSearched filings ids found 0
  IsSearched-first part found all are = record {
    within = omega arith;
    filed = λ x h.
        let r = are.only x (subst (λ (xs : List Id). Contains xs x) are.appended h) in
        IsFiled-under filings x r.0 r.2;
    first = λ x y h k. are.whole x (y, subst (λ (xs : List Id). Contains xs y) (sym all) k, h);
    later = λ x y h none. absurd (Contains-nil y none);
  }

  pub IsSearched-more : (found new : List Id) (next : ℕ) (d : Id) → next < length found
      → IsSearched filings ids found next
      → AreAppended (λ x. Contains filings (x, get_or found next d)) found new
      → IsSearched filings ids new (next + 1)
  IsSearched-more found new next d within are more = record {
    within = subst (λ (xs : List Id). next + 1 ≤ length xs) (sym more.appended)
        (omega (arith, within, length-append found more.more));
    filed = λ x h. elim (Contains-append_cases found more.more x
        (subst (λ (xs : List Id). Contains xs x) more.appended h)) [
          | inl old ↦ are.filed x old
          | inr added ↦ IsFiled-under filings x (get_or found next d) (more.only x added)
        ];
    first = λ x y h k. stays x (are.first x y h k);
    later = λ x y h k. elim ((Contains-take_more found next d within y).0
        (subst (λ (xs : List Id). Contains xs y) front k)) [
          | inl early ↦ stays x (are.later x y h early)
          | inr e ↦ more.whole x (subst (λ (z : Id). Contains filings (x, z)) e h)
        ];
  } where
    stays : (x : Id) → Contains found x → Contains new x
    stays x h = subst (λ (xs : List Id). Contains xs x) (sym more.appended)
        (Contains-append_left found more.more x h)

    front : take (next + 1) new ≡ take (next + 1) found
    front = ap (take (next + 1)) more.appended
        ∙ take-append-le (next + 1) found more.more (omega (arith, within))

  -- where nothing is left to look at
  pub Contains-behind_found : (found : List Id) (next : ℕ) → length found ≤ next
      → IsSearched filings ids found next → (x y : Id) → Contains ids y → IsBehind filings x y
      → Contains found x
  Contains-behind_found found next end are =
      IsBehind-closed filings (Contains found) (Contains ids)
      are.first (λ x y h k. are.later x y h
      (subst (λ (xs : List Id). Contains xs y) (sym (take_all next found end)) k))
