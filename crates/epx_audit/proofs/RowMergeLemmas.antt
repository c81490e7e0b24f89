-- The positions that are noted on paths while a row is merged.
use Rattle.std.proofs.Common.{◌≡◌, ◌⊎◌, inl, inr, ℕ, ◌+◌, ◌-◌, ◌<◌, ◌≤◌, List, Option, Some, None}
use Rattle.std.proofs.Common.{[], ◌∷◌, ◌++◌, length, length-set, length-append, replicate, get_or}
use Rattle.std.proofs.Common.{set, Contains, refl, sym, ap, subst, ◌∙◌, arith}
use Rattle.std.specs.List.Sorted.{IsNonDecreasing}
use Rattle.epx_types.proofs.Common.{Contains-push, Contains-push_cases, cases_eq, cases_lt}
use Rattle.epx_types.proofs.Common.{get_or-replicate, get_or-set_other}
use Rattle.epx_types.proofs.Common.{get_or-set_same, get_or_append_left, get_or_default}
use Rattle.epx_types.proofs.Common.{Contains-permutation, IsPermutation, IsPermutation-sym}
use Rattle.epx_types.proofs.Common.{get_or_past, get_or_push, length-replicate, length_push}
use Rattle.std.proofs.lemmas.List.{get_or-append_right}
use Rattle.std.proofs.lemmas.List.Elements.{Contains-append_left}
use Rattle.epx_audit.specs.declared.path_cover.PathMember.{PathMember}
use Rattle.epx_audit.specs.inner.PathCovers.{AddsTo, AreNotedPaths, CoverLists, IsEntryAt}
use Rattle.epx_audit.specs.inner.PathCovers.{IsMemberEntry, IsNextComponent, IsCoverRow}
use Rattle.epx_audit.specs.inner.PathCovers.{IsTargetEntry}
use Rattle.epx_audit.specs.inner.PathCovers.{greatest_on}

none_some : (x : Option ℕ) (e : ℕ) → x ≡ None → x ≡ Some e → ⊥
none_some x e none some = cc

some_same : (a b : ℕ) → Some a ≡ Some b → a ≡ b
some_same a b h = cc

-- a position is noted on a path of the cover
pub greatest_on-within : (greatest : List (Option ℕ)) (path e : ℕ)
    → greatest_on greatest path ≡ Some e
    → path < length greatest
greatest_on-within greatest path e noted = elim (cases_lt path (length greatest)) [
  | inl below ↦ below
  | inr past ↦ absurd (none_some _ e (get_or_past greatest path None past) noted)
]

-- the paths of a row are paths of the cover
pub AreNotedPaths-within : (greatest : List (Option ℕ)) (paths : List ℕ) (path : ℕ)
    → AreNotedPaths greatest paths → Contains paths path → path < length greatest
AreNotedPaths-within greatest paths path are in' =
    let is = are.only path in' in
    greatest_on-within greatest path is.0 is.1

-- what is added in two steps
pub AddsTo-trans : (a b c : List (Option ℕ)) (First Second Added : ℕ → ℕ → Type 0)
    → AddsTo a b First → AddsTo b c Second
    → ((path e : ℕ) → First path e → Added path e)
    → ((path e : ℕ) → Second path e → Added path e)
    → ((path e : ℕ) → Added path e → First path e ⊎ Second path e) → AddsTo a c Added
AddsTo-trans a b c First Second Added first second one two out = record {
  len = second.len ∙ first.len;
  only = λ path e is. elim (second.only path e is) [
    | inl old ↦ elim (first.only path e old) [
      | inl older ↦ inl older
      | inr new ↦ inr (one path e new)
    ]
    | inr new ↦ inr (two path e new)
  ];
  keeps = λ path d is. second.keeps path d (first.keeps path d is);
  adds = λ path e is. elim (out path e is) [
    | inl new ↦ second.keeps path e (first.adds path e new)
    | inr new ↦ second.adds path e new
  ];
}

-- a position is noted, unless a greater one is
pub AddsTo-set : (greatest : List (Option ℕ)) (path position value : ℕ) → path < length greatest
    → position ≤ value → (value ≡ position) ⊎ (greatest_on greatest path ≡ Some value)
    → ((e : ℕ) → greatest_on greatest path ≡ Some e → e ≤ value)
    → AddsTo greatest (set greatest path (Some value)) (λ x e. (x ≡ path) × (e ≡ position))
AddsTo-set greatest path position value within above choice below = record {
  len = length-set greatest path (Some value);
  only = λ x e is. elim (cases_eq x path) [
    | inl same ↦
        let own : get_or (set greatest path (Some value)) x None ≡ Some value =
        ap (λ y. get_or (set greatest path (Some value)) y None) same ∙ here in
        let value_is : value ≡ e = some_same value e (sym own ∙ is) in
        elim choice [
          | inl new ↦ inr (same, sym value_is ∙ new)
          | inr old ↦ inl (ap (λ y. get_or greatest y None) same ∙ (old ∙ ap Some value_is))
        ]
    | inr other ↦ inl (sym (get_or-set_other greatest path x (Some value) None other) ∙ is)
  ];
  keeps = λ x d is. elim (cases_eq x path) [
    | inl same ↦
        let old : get_or greatest path None ≡ Some is.0 =
        ap (λ y. get_or greatest y None) (sym same) ∙ is.1 in (
          value,
          ap (λ y. get_or (set greatest path (Some value)) y None) same ∙ here,
          omega (arith, below is.0 old, is.2),
        )
    | inr other ↦
        (is.0, get_or-set_other greatest path x (Some value) None other ∙ is.1, is.2)
  ];
  adds = λ x e is. (
    value,
    ap (λ y. get_or (set greatest path (Some value)) y None) is.0 ∙ here,
    omega (arith, is.1),
  );
} where
  here : get_or (set greatest path (Some value)) path None ≡ Some value
  here = get_or-set_same greatest path (Some value) None within

-- the paths of a row, after a position is noted on one of them
pub AreNotedPaths-set : (greatest : List (Option ℕ)) (paths : List ℕ) (path e value : ℕ)
    → AreNotedPaths greatest paths → greatest_on greatest path ≡ Some e
    → AreNotedPaths (set greatest path (Some value)) paths
AreNotedPaths-set greatest paths path e value are noted = record {
  all = λ x d is. elim (cases_eq x path) [
    | inl same ↦ subst (λ y. Contains paths y) (sym same) (are.all path e noted)
    | inr other ↦
        are.all x d (sym (get_or-set_other greatest path x (Some value) None other) ∙ is)
  ];
  only = λ x in'. elim (cases_eq x path) [
    | inl same ↦ (
      value,
      ap (λ y. get_or (set greatest path (Some value)) y None) same
          ∙ get_or-set_same greatest path (Some value) None
          (greatest_on-within greatest path e noted),
    )
    | inr other ↦
        let old = are.only x in' in
        (old.0, get_or-set_other greatest path x (Some value) None other ∙ old.1)
  ];
}

-- the noted paths of a row, after a position is noted on a path that is appended to them
pub AreNotedPaths-push : (greatest : List (Option ℕ)) (paths : List ℕ) (path value : ℕ)
    → AreNotedPaths greatest paths → path < length greatest
    → AreNotedPaths (set greatest path (Some value)) (paths ++ path ∷ [])
AreNotedPaths-push greatest paths path value are within = record {
  all = λ x d is. elim (cases_eq x path) [
    | inl same ↦ subst (λ y. Contains (paths ++ path ∷ []) y) (sym same) (Contains-push paths path)
    | inr other ↦ Contains-append_left paths (path ∷ []) x
        (are.all x d (sym (get_or-set_other greatest path x (Some value) None other) ∙ is))
  ];
  only = λ x in'. elim (cases_eq x path) [
    | inl same ↦ (
      value,
      ap (λ y. get_or (set greatest path (Some value)) y None) same
          ∙ get_or-set_same greatest path (Some value) None within,
    )
    | inr other ↦ elim (Contains-push_cases paths path x in') [
      | inl old ↦
          let was = are.only x old in
          (was.0, get_or-set_other greatest path x (Some value) None other ∙ was.1)
      | inr same ↦ absurd (other (sym same))
    ]
  ];
}

-- the noted paths of a row may be listed in any order
pub AreNotedPaths-permutation : (greatest : List (Option ℕ)) (paths sorted : List ℕ)
    → IsPermutation paths sorted
    → AreNotedPaths greatest paths → AreNotedPaths greatest sorted
AreNotedPaths-permutation greatest paths sorted moves are = record {
  all = λ path e noted. Contains-permutation paths sorted path moves (are.all path e noted);
  only = λ path in'. are.only path
      (Contains-permutation sorted paths path (IsPermutation-sym paths sorted moves) in');
}

-- one path more is pushed
pub IsCoverRow-push : (greatest : List (Option ℕ)) (paths positions : List ℕ) (path position : ℕ)
    → IsCoverRow greatest paths positions → greatest_on greatest path ≡ Some position
    → IsCoverRow greatest (paths ++ path ∷ []) (positions ++ position ∷ [])
IsCoverRow-push greatest paths positions path position is noted = record {
  len = length_push positions position ∙ (ap (λ n. n + 1) is.len ∙ sym (length_push paths path));
  each = λ i below. elim (cases_lt i (length paths)) [
    | inl earlier ↦
        ap (greatest_on greatest) (get_or_append_left paths (path ∷ []) 0 i earlier)
        ∙ (is.each i earlier ∙ ap Some (sym (get_or_append_left positions (position ∷ []) 0 i
        (omega (arith, is.len, earlier)))))
    | inr last ↦
        let here : length paths ≡ i = omega (arith, length_push paths path, below, last) in
        ap (greatest_on greatest) (get_or_push paths path 0 i here)
        ∙ (noted ∙ ap Some (sym (get_or_push positions position 0 i (is.len ∙ here))))
  ];
}

-- what is left after the position on one path more is cleared
pub greatest_on-clear : (greatest : List (Option ℕ)) (paths : List ℕ) (n : ℕ)
    → get_or paths n 0 < length greatest
    → ((x e : ℕ) → greatest_on greatest x ≡ Some e
    → (i : ℕ) × (n ≤ i) × (i < length paths) × (get_or paths i 0 ≡ x))
    → (x e : ℕ) → greatest_on (set greatest (get_or paths n 0) None) x ≡ Some e
    → (i : ℕ) × (n + 1 ≤ i) × (i < length paths) × (get_or paths i 0 ≡ x)
greatest_on-clear greatest paths n within left x e noted = elim (cases_eq x (get_or paths n 0)) [
  | inl same ↦ absurd (none_some _ e
      (ap (λ y. get_or (set greatest (get_or paths n 0) None) y None) same
      ∙ get_or-set_same greatest (get_or paths n 0) None None within) noted)
  | inr other ↦
      let is = left x e (sym (get_or-set_other greatest (get_or paths n 0) x None None other)
      ∙ noted) in
      elim (cases_lt n is.0) [
        | inl later ↦ (is.0, omega arith, is.2, is.3)
        | inr first ↦
            let here : n ≡ is.0 = omega (arith, is.1, first) in
            absurd (other (sym is.3 ∙ ap (λ i. get_or paths i 0) (sym here)))
      ]
]

-- the entries between two numbers
abbrev pub IsBetween : List ℕ → List ℕ → ℕ → ℕ → ℕ → ℕ → Type 0
IsBetween paths positions start n path e = (i : ℕ) × (start ≤ i) × (i < n)
    × (get_or paths i 0 ≡ path) × (get_or positions i 0 ≡ e)

-- one entry more
pub AddsTo-entry : (a b c : List (Option ℕ)) (paths positions : List ℕ) (start n : ℕ) → start ≤ n
    → AddsTo a b (IsBetween paths positions start n)
    → AddsTo b c (λ x e. (x ≡ get_or paths n 0) × (e ≡ get_or positions n 0))
    → AddsTo a c (IsBetween paths positions start (n + 1))
AddsTo-entry a b c paths positions start n from first second =
    AddsTo-trans a b c (IsBetween paths positions start n)
    (λ x e. (x ≡ get_or paths n 0) × (e ≡ get_or positions n 0))
    (IsBetween paths positions start (n + 1)) first second
    (λ path e is. (is.0, is.1, omega (arith, is.2), is.3, is.4))
    (λ path e is. (n, from, omega arith, sym is.0, sym is.1))
    (λ path e is. elim (cases_lt is.0 n) [
      | inl below ↦ inl (is.0, is.1, below, is.3, is.4)
      | inr past ↦
          let same : is.0 ≡ n = omega (arith, is.2, past) in
          inr (
            sym is.3 ∙ ap (λ i. get_or paths i 0) same,
            sym is.4 ∙ ap (λ i. get_or positions i 0) same,
          )
    ])

-- one target more
pub AddsTo-target : (a b d : List (Option ℕ)) (c : CoverLists) (positions targets : List ℕ) (n : ℕ)
    → AddsTo a b (IsTargetEntry c positions targets n)
    → AddsTo b d (IsEntryAt c (get_or positions (get_or targets n 0) 0))
    → AddsTo a d (IsTargetEntry c positions targets (n + 1))
AddsTo-target a b d c positions targets n first second =
    AddsTo-trans a b d (IsTargetEntry c positions targets n)
    (IsEntryAt c (get_or positions (get_or targets n 0) 0))
    (IsTargetEntry c positions targets (n + 1)) first second
    (λ path e is. (is.0, omega (arith, is.1), is.2))
    (λ path e is. (n, omega arith, is))
    (λ path e is. elim (cases_lt is.0 n) [
      | inl below ↦ inl (is.0, below, is.2)
      | inr past ↦
          let same : is.0 ≡ n = omega (arith, is.1, past) in
          inr (subst (λ i. IsEntryAt c (get_or positions (get_or targets i 0) 0) path e) same is.2)
    ])

-- one member more
pub AddsTo-member : (edges : ℕ → List ℕ) (nodes : List ℕ) (a b d : List (Option ℕ)) (c : CoverLists)
    (positions : List ℕ) (n : ℕ) → length c.members ≤ n
    → AddsTo a b (IsMemberEntry edges nodes c positions n)
    → AddsTo b d (IsTargetEntry c positions (edges (get_or nodes n 0))
    (length (edges (get_or nodes n 0))))
    → AddsTo a d (IsMemberEntry edges nodes c positions (n + 1))
AddsTo-member edges nodes a b d c positions n from first second =
    AddsTo-trans a b d (IsMemberEntry edges nodes c positions n)
    (IsTargetEntry c positions (edges (get_or nodes n 0)) (length (edges (get_or nodes n 0))))
    (IsMemberEntry edges nodes c positions (n + 1)) first second
    (λ path e is. (is.0, is.1, omega (arith, is.2), is.3))
    (λ path e is. (n, from, omega arith, is))
    (λ path e is. elim (cases_lt is.0 n) [
      | inl below ↦ inl (is.0, is.1, below, is.3)
      | inr past ↦
          let same : is.0 ≡ n = omega (arith, is.2, past) in
          inr (subst (λ p. IsTargetEntry c positions (edges (get_or nodes p 0))
          (length (edges (get_or nodes p 0))) path e) same is.3)
    ])

-- the lists with a component that is pushed with the row of these paths
module _ (old : CoverLists) (end : ℕ) (greatest row : List (Option ℕ)) (tails : List ℕ)
    (member : PathMember) (paths added : List ℕ) (more : length old.members ≤ end)
    (entries : length old.row_positions ≡ length old.row_paths)
    (start : member.start ≡ length old.members)
    (path : (member.path ≡ length old.members)
    ⊎ (greatest_on greatest member.path ≡ Some (get_or tails member.path 0)))
    (own : AddsTo greatest row (λ x e. (x ≡ member.path) × (e ≡ length old.members)))
    (are : AreNotedPaths row paths) (is : IsCoverRow row paths added)
    (sorted : IsNonDecreasing paths)
    (row_start : member.row_start ≡ length old.row_paths)
    (row_end : member.row_end ≡ length (old.row_paths ++ paths)) where
  count : length (old.row_paths ++ paths) ≡ length old.row_paths + length paths
  count = length-append old.row_paths paths

  path_on_right : (i : ℕ) → length old.row_paths ≤ i
      → get_or (old.row_paths ++ paths) i 0 ≡ get_or paths (i - length old.row_paths) 0
  path_on_right i from =
      get_or-append_right old.row_paths paths (length old.row_paths) i 0 refl from

  position_on_right : (i : ℕ) → length old.row_paths ≤ i
      → get_or (old.row_positions ++ added) i 0 ≡ get_or added (i - length old.row_paths) 0
  position_on_right i from =
      get_or-append_right old.row_positions added (length old.row_paths) i 0 entries from

  pushed : IsNextComponent old (record {
    members = old.members ++ replicate (end - length old.members) member;
    row_paths = old.row_paths ++ paths;
    row_positions = old.row_positions ++ added;
  }) end greatest tails (set tails member.path (length old.members)) member row
  pushed = record {
    start = start;
    path = path;
    written = refl;
    whole = length-append old.members (replicate (end - length old.members) member)
        ∙ (ap (λ n. length old.members + n) (length-replicate (end - length old.members) member)
        ∙ omega arith);
    before = λ p below. get_or_append_left old.members
        (replicate (end - length old.members) member)
        (record { start = 0; path = 0; row_start = 0; row_end = 0 }) p below;
    members = λ p from below. get_or-append_right old.members
        (replicate (end - length old.members) member) (length old.members) p
        (record { start = 0; path = 0; row_start = 0; row_end = 0 }) refl from
        ∙ get_or-replicate (end - length old.members) (p - length old.members) member
        (record { start = 0; path = 0; row_start = 0; row_end = 0 }) (omega arith);
    own = own;
    row_start = row_start;
    row_end = row_end;
    longer = omega (arith, count);
    entries = length-append old.row_positions added ∙ omega (arith, count, entries, is.len);
    old_paths = λ i below. get_or_append_left old.row_paths paths 0 i below;
    old_positions = λ i below.
        get_or_append_left old.row_positions added 0 i (omega (arith, below, entries));
    values = λ i from below.
        ap (greatest_on row) (path_on_right i from)
        ∙ (is.each (i - length old.row_paths) (omega (arith, from, below, count))
        ∙ ap Some (sym (position_on_right i from)));
    all = λ x e noted.
        let in' = are.all x e noted in
        let i : ℕ = length old.row_paths + in'.0 in
        let same : i - length old.row_paths ≡ in'.0 = omega arith in (
          i,
          omega arith,
          omega (arith, in'.1, count),
          path_on_right i (omega arith) ∙ (ap (λ j. get_or paths j 0) same
              ∙ (get_or_default paths in'.0 0 x in'.1 ∙ in'.2)),
        );
    rising = λ i j from order below. omega (
      arith,
      path_on_right i from,
      path_on_right j (omega (arith, from, order)),
      sorted (i - length old.row_paths) (j - length old.row_paths) 0 (omega (arith, order))
          (omega (arith, from, order, below, count)),
    );
  }

  -- lists that equal the old ones with the component pushed have it as their next component
  pub IsNextComponent-from_lists : (members : List PathMember)
      (row_paths row_positions new_tails : List ℕ)
      → members ≡ old.members ++ replicate (end - length old.members) member
      → row_paths ≡ old.row_paths ++ paths → row_positions ≡ old.row_positions ++ added
      → new_tails ≡ set tails member.path (length old.members)
      → IsNextComponent old (record {
        members = members;
        row_paths = row_paths;
        row_positions = row_positions;
      }) end greatest tails new_tails member row
  IsNextComponent-from_lists members row_paths row_positions new_tails e f g h =
      let all = old.members ++ replicate (end - length old.members) member in
      let written = subst (λ ts. IsNextComponent old (record {
        members = all;
        row_paths = old.row_paths ++ paths;
        row_positions = old.row_positions ++ added;
      }) end greatest tails ts member row) (sym h) pushed in
      let positions = subst (λ qs. IsNextComponent old (record {
        members = all;
        row_paths = old.row_paths ++ paths;
        row_positions = qs;
      }) end greatest tails new_tails member row) (sym g) written in
      let both = subst (λ ps. IsNextComponent old (record {
        members = all;
        row_paths = ps;
        row_positions = row_positions;
      }) end greatest tails new_tails member row) (sym f) positions in
      subst (λ ms. IsNextComponent old (record {
        members = ms;
        row_paths = row_paths;
        row_positions = row_positions;
      }) end greatest tails new_tails member row) (sym e) both
