-- The pending instances, each at its Id in a map: look-ups, insertions and removals, and what is
-- left after a call.
use Rattle.std.proofs.Common.{◌≡◌, ◌≢◌, ◌⊎◌, ◌↔◌, ℕ, ◌+◌, ◌<◌, ◌≤◌, Bool, true, false, not, List}
use Rattle.std.proofs.Common.{[], ◌∷◌, ◌++◌, length, map, take, drop, get_or, Contains, Option}
use Rattle.std.proofs.Common.{Some, None, MatchOption, is_some, Less, Equal, Greater, Bor, refl}
use Rattle.std.proofs.Common.{sym, ap, ◌∙◌, subst, inl, inr}
use Rattle.epx_types.proofs.Common.{cases_Bool, take_all, take_more, take-append-drop}
use Rattle.epx_types.proofs.Common.{Contains-append_left, Contains-append_right}
use Rattle.epx_types.proofs.Common.{Contains-append_cases, is_at, Equal-is, lookup, is_eq}
use Rattle.epx_types.proofs.Common.{match_ordering, ids_of, id_cmp, Below, BelowAll, IsRising}
use Rattle.epx_types.proofs.Common.{Instance, IsRising-same, id_cmp-IsTotalOrder}
use Rattle.epx_types.proofs.Common.{id_cmp-IsAntisymmetric}
use Rattle.epx_types.proofs.Common.{Contains-nil, Contains-head, Contains-cons, Contains-cons_cases}
use Rattle.epx_types.proofs.Common.{Contains-map, is_lt-irrefl}
use Rattle.epx_types.specs.declared.id.Id.{Id}
use Rattle.std.specs.BTreeMap.{insert_entry}
use Rattle.std.specs.Cmp.{tied_itself}
use Rattle.std.specs.Map.{remove_entry}
use Rattle.std.specs.Option.{option_copied, IfSome}

abbrev keys : List (Id × Instance) → List Id
keys es = map (λ e. e.0) es

abbrev values : List (Id × Instance) → List Instance
values es = map (λ e. e.1) es

-- each instance is at its Id
abbrev pub AreKeyed : List (Id × Instance) → Type 0
AreKeyed es = keys es ≡ ids_of (values es)

keyed_head : (p : Id × Instance) (es : List (Id × Instance)) → AreKeyed (p ∷ es) → p.0 ≡ p.1.id
keyed_head p es k = cc k

keyed_tail : (p : Id × Instance) (es : List (Id × Instance)) → AreKeyed (p ∷ es) → AreKeyed es
keyed_tail p es k = cc k

keyed_more : (p : Id × Instance) (es : List (Id × Instance)) → p.0 ≡ p.1.id → AreKeyed es
    → AreKeyed (p ∷ es)
keyed_more p es here rest = cc (here, rest)

equal_at : (x y : Id) → is_eq (id_cmp x y) ≡ true → x ≡ y
equal_at x y e = id_cmp-IsAntisymmetric x y ((Equal-is (id_cmp x y)).0 e)

-- ---- keys that ascend

below_each : (x : Id) (xs : List Id) (y : Id) → BelowAll x xs → Contains xs y → Below x y
below_each x [] y l h = absurd (Contains-nil y h)
below_each x (z ∷ xs) y l h =
    elim (Contains-cons_cases z xs y h) [
      | inl here ↦ subst (Below x) here l.0
      | inr rest ↦ below_each x xs y l.1 rest
    ]

-- ---- a look-up

found_at : (x : Id) (es : List (Id × Instance)) (e : Instance) → AreKeyed es
    → lookup (is_at (id_cmp x)) es ≡ Some e → Contains (values es) e × (e.id ≡ x)
found_at x [] e k h = absurd (cc h)
found_at x (p ∷ es) e k h =
    elim (cases_Bool (is_eq (id_cmp x p.0))) [
      | inl here ↦
          let is : Some p.1 ≡ Some e = rw here at h in
          let same : p.1 ≡ e = cc is in (
            subst (Contains (p.1 ∷ values es)) same (Contains-head p.1 (values es)),
            ap (λ (i : Instance). i.id) (sym same)
                ∙ sym (keyed_head p es k) ∙ sym (equal_at x p.0 here),
          )
      | inr later ↦
          let rest = found_at x es e (keyed_tail p es k) (rw later at h) in
          (Contains-cons p.1 (values es) e rest.0, rest.1)
    ]

none_at : (x : Id) (es : List (Id × Instance)) → AreKeyed es
    → lookup (is_at (id_cmp x)) es ≡ None → ¬ Contains (ids_of (values es)) x
none_at x [] k h there = absurd (Contains-nil x there)
none_at x (p ∷ es) k h there =
    elim (cases_Bool (is_eq (id_cmp x p.0))) [
      | inl here ↦ let is : Some p.1 ≡ None = rw here at h in absurd (cc is)
      | inr later ↦ elim (Contains-cons_cases p.1.id (ids_of (values es)) x there) [
        | inl same ↦
            let tie : id_cmp x p.0 ≡ Equal =
            ap (id_cmp x) (keyed_head p es k ∙ same) ∙ tied_itself id_cmp-IsTotalOrder x in
            absurd (cc (ap is_eq tie, later))
        | inr rest ↦ none_at x es (keyed_tail p es k) (rw later at h) rest
      ]
    ]

pub MatchOption-looked_up : (x : Id) (es : List (Id × Instance)) (m : List Instance)
    (r : Option (Bor Instance))
    → AreKeyed es → values es ≡ m → option_copied r ≡ lookup (is_at (id_cmp x)) es
    → MatchOption r (¬ Contains (ids_of m) x) (λ e. Contains m e.now × (e.now.id ≡ x))
MatchOption-looked_up x es m None k is h =
    subst (λ (l : List Instance). ¬ Contains (ids_of l) x) is (none_at x es k (sym h))
MatchOption-looked_up x es m (Some e) k is h =
    let found = found_at x es e.now k (sym h) in
    (subst (λ (l : List Instance). Contains l e.now) is found.0, found.1)

pub IfSome-only_looked_up : (x : Id) (es : List (Id × Instance)) (m : List Instance)
    (r : Option (Bor Instance)) → AreKeyed es → IsRising (keys es) → values es ≡ m
    → MatchOption r (¬ Contains (ids_of m) x) (λ e. Contains m e.now × (e.now.id ≡ x))
    → IfSome r (λ e. (p : Instance) → Contains m p → p.id ≡ x → p ≡ e.now)
IfSome-only_looked_up x es m None k rising is h = tt
IfSome-only_looked_up x es m (Some e) k rising is h = λ p there same.
    IsRising-same m (subst IsRising (k ∙ ap ids_of is) rising) p e.now there h.0 (same ∙ sym h.1)

-- a look-up of the Id of v finds none, or one
pub Contains-none_found : (m : List Instance) (x : Id) (v : Instance) (r : Option (Bor Instance))
    (b : Bool)
    → x ≡ v.id → is_some r ≡ not b → b ≡ true
    → MatchOption r (¬ Contains (ids_of m) x) (λ e. Contains m e.now × (e.now.id ≡ x))
    → ¬ Contains (ids_of m) v.id
Contains-none_found m x v None b same e is h = subst (λ (y : Id). ¬ Contains (ids_of m) y) same h
Contains-none_found m x v (Some f) b same e is h = absurd (cc (e, ap not is))

pub Contains-one_found : (m : List Instance) (x : Id) (v : Instance) (r : Option (Bor Instance))
    (b : Bool)
    → x ≡ v.id → is_some r ≡ not b → b ≡ false
    → MatchOption r (¬ Contains (ids_of m) x) (λ e. Contains m e.now × (e.now.id ≡ x))
    → (f : Instance) × Contains m f × (f.id ≡ v.id)
Contains-one_found m x v None b same e is h = absurd (cc (e, ap not is))
Contains-one_found m x v (Some f) b same e is h = (f.now, h.0, h.1 ∙ same)

-- ---- an insertion

inserted_keyed : (es : List (Id × Instance)) (e : Instance) → AreKeyed es
    → AreKeyed (insert_entry id_cmp es e.id e)
inserted_keyed [] e k = refl
inserted_keyed (p ∷ es) e k =
    elim (id_cmp e.id p.0) as (λ r. id_cmp e.id p.0 ≡ r → AreKeyed (match_ordering r
    ((e.id, e) ∷ p ∷ es) ((p.0, e) ∷ es) (p ∷ insert_entry id_cmp es e.id e))) [
      | Less ↦ λ is. keyed_more (e.id, e) (p ∷ es) refl k
      | Equal ↦ λ is. keyed_more (p.0, e) es (sym (id_cmp-IsAntisymmetric e.id p.0 is))
          (keyed_tail p es k)
      | Greater ↦ λ is. keyed_more p (insert_entry id_cmp es e.id e) (keyed_head p es k)
          (inserted_keyed es e (keyed_tail p es k))
    ] refl

cons_members : (v e : Instance) (m : List Instance)
    → Contains (v ∷ m) e ↔ (Contains m e ⊎ (e ≡ v))
cons_members v e m = (
  λ h. elim (Contains-cons_cases v m e h) [ inl here ↦ inr (sym here) | inr rest ↦ inl rest ],
  λ h. elim h [
    | inl rest ↦ Contains-cons v m e rest
    | inr here ↦ subst (Contains (v ∷ m)) (sym here) (Contains-head v m)
  ],
)

inserted_members : (es : List (Id × Instance)) (x : Id) (v e : Instance)
    → ¬ Contains (keys es) x
    → Contains (values (insert_entry id_cmp es x v)) e ↔ (Contains (values es) e ⊎ (e ≡ v))
inserted_members [] x v e none = cons_members v e []
inserted_members (p ∷ es) x v e none =
    elim (id_cmp x p.0) as (λ r. id_cmp x p.0 ≡ r → Contains (values (match_ordering r
    ((x, v) ∷ p ∷ es) ((p.0, v) ∷ es) (p ∷ insert_entry id_cmp es x v))) e
    ↔ (Contains (values (p ∷ es)) e ⊎ (e ≡ v))) [
      | Less ↦ λ is. cons_members v e (p.1 ∷ values es)
      | Equal ↦ λ is. absurd (none (subst (Contains (keys (p ∷ es)))
          (sym (id_cmp-IsAntisymmetric x p.0 is)) (Contains-head p.0 (keys es))))
      | Greater ↦ λ is.
          let rest = inserted_members es x v e (λ h. none (Contains-cons p.0 (keys es) x h)) in (
            λ h. elim (Contains-cons_cases p.1 (values (insert_entry id_cmp es x v)) e h) [
              | inl here ↦ inl (subst (Contains (p.1 ∷ values es)) here
                  (Contains-head p.1 (values es)))
              | inr there ↦ elim (rest.0 there) [
                | inl old ↦ inl (Contains-cons p.1 (values es) e old)
                | inr new ↦ inr new
              ]
            ],
            λ h. elim h [
              | inl old ↦ elim (Contains-cons_cases p.1 (values es) e old) [
                | inl here ↦ subst (Contains (p.1 ∷ values (insert_entry id_cmp es x v))) here
                    (Contains-head p.1 (values (insert_entry id_cmp es x v)))
                | inr there ↦ Contains-cons p.1 (values (insert_entry id_cmp es x v)) e
                    (rest.1 (inl there))
              ]
              | inr new ↦ Contains-cons p.1 (values (insert_entry id_cmp es x v)) e
                  (rest.1 (inr new))
            ],
          )
    ] refl

pub AreKeyed-insert : (es fs : List (Id × Instance)) (x : Id) (e : Instance) → AreKeyed es
    → x ≡ e.id → fs ≡ insert_entry id_cmp es x e → AreKeyed fs
AreKeyed-insert es fs x e k same is =
    subst AreKeyed (sym (is ∙ ap (λ (y : Id). insert_entry id_cmp es y e) same))
    (inserted_keyed es e k)

pub Contains-insert_entry : (es fs : List (Id × Instance)) (m : List Instance) (x : Id)
    (v e : Instance) → AreKeyed es → values es ≡ m → x ≡ v.id → ¬ Contains (ids_of m) v.id
    → fs ≡ insert_entry id_cmp es x v → Contains (values fs) e ↔ (Contains m e ⊎ (e ≡ v))
Contains-insert_entry es fs m x v e k view same none is =
    subst (λ (l : List Instance). Contains (values fs) e ↔ (Contains l e ⊎ (e ≡ v))) view
    (subst (λ (gs : List (Id × Instance)). Contains (values gs) e
    ↔ (Contains (values es) e ⊎ (e ≡ v))) (sym is) (inserted_members es x v e
    (λ h. none (subst (Contains (ids_of m)) same (subst (λ (ids : List Id). Contains ids x)
    (k ∙ ap ids_of view) h)))))

-- ---- a removal

removed_keyed : (x : Id) (es : List (Id × Instance)) → AreKeyed es
    → AreKeyed (remove_entry (is_at (id_cmp x)) es)
removed_keyed x [] k = refl
removed_keyed x (p ∷ es) k =
    elim (cases_Bool (is_eq (id_cmp x p.0))) [
      | inl here ↦ rw here (keyed_tail p es k)
      | inr later ↦ rw later (keyed_more p (remove_entry (is_at (id_cmp x)) es)
          (keyed_head p es k) (removed_keyed x es (keyed_tail p es k)))
    ]

-- an instance of another Id stays
removed_stay : (x : Id) (es : List (Id × Instance)) (e : Instance) → AreKeyed es
    → Contains (values es) e → e.id ≢ x → Contains (values (remove_entry (is_at (id_cmp x)) es)) e
removed_stay x [] e k h other = absurd (Contains-nil e h)
removed_stay x (p ∷ es) e k h other =
    elim (cases_Bool (is_eq (id_cmp x p.0))) [
      | inl here ↦ rw here (elim (Contains-cons_cases p.1 (values es) e h) [
        | inl is ↦ absurd (other (ap (λ (i : Instance). i.id) (sym is)
            ∙ sym (keyed_head p es k) ∙ sym (equal_at x p.0 here)))
        | inr rest ↦ rest
      ])
      | inr later ↦ rw later (elim (Contains-cons_cases p.1 (values es) e h) [
        | inl is ↦ subst (Contains (p.1 ∷ values (remove_entry (is_at (id_cmp x)) es))) is
            (Contains-head p.1 (values (remove_entry (is_at (id_cmp x)) es)))
        | inr rest ↦ Contains-cons p.1 (values (remove_entry (is_at (id_cmp x)) es)) e
            (removed_stay x es e (keyed_tail p es k) rest other)
      ])
    ]

-- what is left was there
removed_left : (x : Id) (es : List (Id × Instance)) (e : Instance)
    → Contains (values (remove_entry (is_at (id_cmp x)) es)) e → Contains (values es) e
removed_left x [] e h = h
removed_left x (p ∷ es) e h =
    elim (cases_Bool (is_eq (id_cmp x p.0))) [
      | inl here ↦ Contains-cons p.1 (values es) e (rw here at h)
      | inr later ↦
          let left = values (remove_entry (is_at (id_cmp x)) es) in
          let rest : Contains (p.1 ∷ left) e = rw later at h in
          elim (Contains-cons_cases p.1 left e rest) [
            | inl is ↦ subst (Contains (p.1 ∷ values es)) is (Contains-head p.1 (values es))
            | inr there ↦ Contains-cons p.1 (values es) e (removed_left x es e there)
          ]
    ]

-- none of this Id is left
removed_gone : (x : Id) (es : List (Id × Instance)) (e : Instance) → AreKeyed es
    → IsRising (keys es) → Contains (values (remove_entry (is_at (id_cmp x)) es)) e → e.id ≢ x
removed_gone x [] e k rising h same = absurd (Contains-nil e h)
removed_gone x (p ∷ es) e k rising h same =
    elim (cases_Bool (is_eq (id_cmp x p.0))) [
      | inl here ↦
          let rest : Contains (values es) e = rw here at h in
          let later : Contains (ids_of (values es)) e.id =
          Contains-map (λ (i : Instance). i.id) (values es) e rest in
          let above : Below p.0 e.id = below_each p.0 (keys es) e.id rising.0
          (subst (λ (ids : List Id). Contains ids e.id) (sym (keyed_tail p es k)) later) in
          absurd (is_lt-irrefl id_cmp-IsTotalOrder x (subst (Below x) same
          (subst (λ (y : Id). Below y e.id) (sym (equal_at x p.0 here)) above)))
      | inr later ↦
          let left = values (remove_entry (is_at (id_cmp x)) es) in
          let rest : Contains (p.1 ∷ left) e = rw later at h in
          elim (Contains-cons_cases p.1 left e rest) [
            | inl is ↦
                let tie : id_cmp x p.0 ≡ Equal =
                ap (id_cmp x) (keyed_head p es k ∙ ap (λ (i : Instance). i.id) is ∙ same)
                ∙ tied_itself id_cmp-IsTotalOrder x in
                absurd (cc (ap is_eq tie, later))
            | inr there ↦ removed_gone x es e (keyed_tail p es k) rising.1 there same
          ]
    ]

removed_members : (x : Id) (es : List (Id × Instance)) (e : Instance) → AreKeyed es
    → IsRising (keys es) → Contains (values (remove_entry (is_at (id_cmp x)) es)) e
    ↔ (Contains (values es) e × (e.id ≢ x))
removed_members x es e k rising = (
  λ h. (removed_left x es e h, removed_gone x es e k rising h),
  λ h. removed_stay x es e k h.0 h.1,
)

pub AreKeyed-remove : (es fs : List (Id × Instance)) (x : Id) → AreKeyed es
    → fs ≡ remove_entry (is_at (id_cmp x)) es → AreKeyed fs
AreKeyed-remove es fs x k is = subst AreKeyed (sym is) (removed_keyed x es k)

pub Contains-remove_entry : (es fs : List (Id × Instance)) (m : List Instance) (x : Id)
    (e : Instance) → AreKeyed es → IsRising (keys es) → values es ≡ m
    → fs ≡ remove_entry (is_at (id_cmp x)) es
    → Contains (values fs) e ↔ (Contains m e × (e.id ≢ x))
Contains-remove_entry es fs m x e k rising view is =
    subst (λ (l : List Instance). Contains (values fs) e ↔ (Contains l e × (e.id ≢ x))) view
    (subst (λ (gs : List (Id × Instance)). Contains (values gs) e
    ↔ (Contains (values es) e × (e.id ≢ x))) (sym is) (removed_members x es e k rising))

-- ---- lists, one by one

-- the first k + 1 are the first k and the next
pub Contains-next : {X : Type 0} (xs : List X) (k : ℕ) (d x : X) → k < length xs
    → Contains (take (k + 1) xs) x ↔ (Contains (take k xs) x ⊎ (get_or xs k d ≡ x))
Contains-next {X} xs k d x l = (
  λ h. elim (Contains-append_cases (take k xs) (get_or xs k d ∷ []) x
      (subst (λ (ys : List X). Contains ys x) (take_more xs k d l) h)) [
        | inl before ↦ inl before
        | inr now ↦ elim (Contains-cons_cases (get_or xs k d) [] x now) [
          | inl here ↦ inr here
          | inr none ↦ absurd (Contains-nil x none)
        ]
      ],
  λ h. subst (λ (ys : List X). Contains ys x) (sym (take_more xs k d l)) (elim h [
    | inl before ↦ Contains-append_left (take k xs) (get_or xs k d ∷ []) x before
    | inr here ↦ Contains-append_right (take k xs) (get_or xs k d ∷ []) x
        (subst (Contains (get_or xs k d ∷ [])) here (Contains-head (get_or xs k d) []))
  ]),
)

within_taken : {X : Type 0} (xs : List X) (k : ℕ) (x : X) → Contains (take k xs) x
    → Contains xs x
within_taken {X} xs k x h = subst (λ (ys : List X). Contains ys x) (take-append-drop k xs)
    (Contains-append_left (take k xs) (drop k xs) x h)

-- the instances are those of `before` whose Ids are not listed
abbrev pub AreWithout : List Instance → List Id → List Instance → Type 0
AreWithout before ids m =
    (e : Instance) → Contains m e ↔ (Contains before e × (¬ Contains ids e.id))

pub AreWithout-next : (before m n : List Instance) (xs : List Id) (k : ℕ) (d : Id) → k < length xs
    → AreWithout before (take k xs) m
    → ((e : Instance) → Contains n e ↔ (Contains m e × (e.id ≢ get_or xs k d)))
    → AreWithout before (take (k + 1) xs) n
AreWithout-next before m n xs k d l are step = λ e.
    let next = Contains-next xs k d e.id l in (
      λ h.
          let was = (step e).0 h in
          let old = (are e).0 was.0 in (
            old.0,
            λ there. elim (next.0 there)
                [ inl earlier ↦ old.1 earlier | inr here ↦ was.1 (sym here) ],
          ),
      λ h. (step e).1 (
        (are e).1 (h.0, λ earlier. h.1 (next.1 (inl earlier))),
        λ here. h.1 (next.1 (inr (sym here))),
      ),
    )

pub AreWithout-all : (before m : List Instance) (xs : List Id) (k : ℕ) → length xs ≤ k
    → AreWithout before (take k xs) m → AreWithout before xs m
AreWithout-all before m xs k l are =
    subst (λ (ys : List Id). AreWithout before ys m) (take_all k xs l) are

-- ---- look-ups of some Ids

-- instances of the map, all of them whose Ids are listed
abbrev pub AreSome : List Instance → List Id → List Instance → Type 0
AreSome m ids found = ((e : Instance) → Contains found e → Contains m e)
    × ((e : Instance) → Contains m e → Contains ids e.id → Contains found e)

pub AreSome-found : (m found : List Instance) (xs : List Id) (k : ℕ) (d : Id) (f : Instance)
    → k < length xs → AreSome m (take k xs) found → Contains m f
    → ((p : Instance) → Contains m p → p.id ≡ get_or xs k d → p ≡ f)
    → AreSome m (take (k + 1) xs) (found ++ f ∷ [])
AreSome-found m found xs k d f l are there only = (
  λ e h. elim (Contains-append_cases found (f ∷ []) e h) [
    | inl before ↦ are.0 e before
    | inr now ↦ elim (Contains-cons_cases f [] e now) [
      | inl here ↦ subst (Contains m) here there
      | inr none ↦ absurd (Contains-nil e none)
    ]
  ],
  λ e h listed. elim ((Contains-next xs k d e.id l).0 listed) [
    | inl before ↦ Contains-append_left found (f ∷ []) e (are.1 e h before)
    | inr here ↦ Contains-append_right found (f ∷ []) e
        (subst (Contains (f ∷ [])) (sym (only e h (sym here))) (Contains-head f []))
  ],
)

pub AreSome-missed : (m found : List Instance) (xs : List Id) (k : ℕ) (d : Id) → k < length xs
    → AreSome m (take k xs) found → ¬ Contains (ids_of m) (get_or xs k d)
    → AreSome m (take (k + 1) xs) found
AreSome-missed m found xs k d l are none = (
  are.0,
  λ e h listed. elim ((Contains-next xs k d e.id l).0 listed) [
    | inl before ↦ are.1 e h before
    | inr here ↦ absurd (none (subst (Contains (ids_of m)) (sym here)
        (Contains-map (λ (i : Instance). i.id) m e h)))
  ],
)

pub AreSome-all : (m found : List Instance) (xs : List Id) (k : ℕ) → length xs ≤ k
    → AreSome m (take k xs) found → AreSome m xs found
AreSome-all m found xs k l are =
    subst (λ (ys : List Id). AreSome m ys found) (take_all k xs l) are

-- ---- the entries of a call

-- What was there before is there, and of the entries so far those that are not done. The noted Ids
-- are those of what was not there
pub record AreInserted (done : List Id) (before so_far m : List Instance) (ids : List Id)
    : Type 0 where
  pub kept : (e : Instance) → Contains before e → Contains m e
  pub old : (e : Instance) → Contains before e → ¬ Contains ids e.id
  pub only : (e : Instance) → Contains m e → Contains before e
      ⊎ (Contains so_far e × (¬ Contains done e.id) × Contains ids e.id)
  pub left : (e : Instance) → Contains so_far e → ¬ Contains done e.id → Contains m e

-- the noted Ids tell what was there before
pub Contains-noted : (done : List Id) (before so_far m : List Instance) (ids : List Id)
    → AreInserted done before so_far m ids
    → (e : Instance) → Contains before e ↔ (Contains m e × (¬ Contains ids e.id))
Contains-noted done before so_far m ids are e = (
  λ h. (are.kept e h, are.old e h),
  λ h. elim (are.only e h.0) [ inl was ↦ was | inr new ↦ absurd (h.1 new.2) ],
)

-- an Id more of which there is no instance
noted_more : (done : List Id) (before so_far m : List Instance) (ids : List Id) (x : Id)
    → AreInserted done before so_far m ids → ¬ Contains (ids_of m) x
    → AreInserted done before so_far m (ids ++ x ∷ [])
noted_more done before so_far m ids x are none = record {
  kept = are.kept;
  old = λ e h there. elim (Contains-append_cases ids (x ∷ []) e.id there) [
    | inl earlier ↦ are.old e h earlier
    | inr now ↦ elim (Contains-cons_cases x [] e.id now) [
      | inl here ↦ none (subst (Contains (ids_of m)) (sym here)
          (Contains-map (λ (i : Instance). i.id) m e (are.kept e h)))
      | inr nil ↦ absurd (Contains-nil e.id nil)
    ]
  ];
  only = λ e h. elim (are.only e h) [
    | inl was ↦ inl was
    | inr new ↦ inr (new.0, new.1, Contains-append_left ids (x ∷ []) e.id new.2)
  ];
  left = are.left;
}

-- its Id is that of an instance which is to be inserted
pub Contains-noted_push : (done : List Id) (before so_far m : List Instance) (ids pushed : List Id)
    (x : Id)
    (v : Instance) → AreInserted done before so_far m ids → pushed ≡ ids ++ x ∷ [] → x ≡ v.id
    → ¬ Contains (ids_of m) v.id
    → (e : Instance) → Contains before e ↔ (Contains m e × (¬ Contains pushed e.id))
Contains-noted_push done before so_far m ids pushed x v are is same none =
    Contains-noted done before so_far m pushed (subst (AreInserted done before so_far m) (sym is)
    (noted_more done before so_far m ids x are
    (subst (λ (y : Id). ¬ Contains (ids_of m) y) (sym same) none)))

module _ (done : List Id) (before es m : List Instance) (ids : List Id) (k : ℕ) (v : Instance)
    (l : k < length es) (here : get_or es k v ≡ v)
    (are : AreInserted done before (take k es) m ids) where
  later : (e : Instance) → Contains (take k es) e → Contains (take (k + 1) es) e
  later e h = (Contains-next es k v e l).1 (inl h)

  only_later : (e : Instance) → Contains m e → Contains before e
      ⊎ (Contains (take (k + 1) es) e × (¬ Contains done e.id) × Contains ids e.id)
  only_later e h = elim (are.only e h) [
    | inl was ↦ inl was
    | inr new ↦ inr (later e new.0, new.1, new.2)
  ]

  -- the next entry is inserted
  pub AreInserted-next : (n : List Instance) → ¬ Contains done v.id → ¬ Contains (ids_of m) v.id
      → ((e : Instance) → Contains n e ↔ (Contains m e ⊎ (e ≡ v)))
      → AreInserted done before (take (k + 1) es) n (ids ++ v.id ∷ [])
  AreInserted-next n not_done none step =
      let more = noted_more done before (take k es) m ids v.id are none in record {
        kept = λ e h. (step e).1 (inl (are.kept e h));
        old = more.old;
        only = λ e h. elim ((step e).0 h) [
          | inl was ↦ elim (only_later e was) [
            | inl old ↦ inl old
            | inr new ↦ inr (new.0, new.1, Contains-append_left ids (v.id ∷ []) e.id new.2)
          ]
          | inr same ↦ subst (λ (i : Instance). Contains before i
              ⊎ (Contains (take (k + 1) es) i × (¬ Contains done i.id)
              × Contains (ids ++ v.id ∷ []) i.id)) (sym same) (inr (
                (Contains-next es k v v l).1 (inr here),
                not_done,
                Contains-append_right ids (v.id ∷ []) v.id (Contains-head v.id []),
              ))
        ];
        left = λ e h is. elim ((Contains-next es k v e l).0 h) [
          | inl earlier ↦ (step e).1 (inl (are.left e earlier is))
          | inr now ↦ (step e).1 (inr (sym now ∙ here))
        ];
      }

  -- the next entry is there or done
  passed_next : (¬ Contains done v.id → Contains m v)
      → AreInserted done before (take (k + 1) es) m ids
  passed_next there = record {
    kept = are.kept;
    old = are.old;
    only = only_later;
    left = λ e h is. elim ((Contains-next es k v e l).0 h) [
      | inl earlier ↦ are.left e earlier is
      | inr now ↦
          let same : v ≡ e = sym here ∙ now in
          subst (Contains m) same (there (subst (λ (i : Instance). ¬ Contains done i.id)
          (sym same) is))
    ];
  }

  pub AreInserted-done : Contains done v.id → AreInserted done before (take (k + 1) es) m ids
  AreInserted-done is = passed_next (λ left. absurd (left is))

  -- an instance of its Id is there
  pub AreInserted-there : (f : Instance) → IsRising (ids_of es)
      → ((p e : Instance) → Contains before p → Contains es e → p.id ≡ e.id → p ≡ e)
      → Contains m f → f.id ≡ v.id → AreInserted done before (take (k + 1) es) m ids
  AreInserted-there f rising alike there same =
      passed_next (λ left. subst (Contains m) (elim (are.only f there) [
        | inl was ↦ alike f v was within same
        | inr new ↦ IsRising-same es rising f v (within_taken es k f new.0) within same
      ]) there)
    where
      within : Contains es v
      within = (k, l, here)

pub Contains-all_inserted : (done : List Id) (before es m : List Instance) (ids : List Id) (k : ℕ)
    → length es ≤ k → AreInserted done before (take k es) m ids
    → (e : Instance) → Contains m e ↔ (Contains before e ⊎ (Contains es e × (¬ Contains done e.id)))
Contains-all_inserted done before es m ids k l are e =
    let whole = take_all k es l in (
      λ h. elim (are.only e h) [
        | inl was ↦ inl was
        | inr new ↦ inr (subst (λ (xs : List Instance). Contains xs e) whole new.0, new.1)
      ],
      λ h. elim h [
        | inl was ↦ are.kept e was
        | inr new ↦ are.left e (subst (λ (xs : List Instance). Contains xs e) (sym whole) new.0)
            new.1
      ],
    )
