-- The members in which the lines of an instance differ, by its versions.
use Rattle.std.proofs.Common.{◌≡◌, ◌∙◌, ◌||◌, ℕ, Bool, true, false, not, List, [], ◌∷◌, ◌++◌, map}
use Rattle.std.proofs.Common.{Contains, refl, sym, ap, subst, codes, inl, inr, filter}
use Rattle.epx_types.proofs.Common.{Decides, list_any, Contains-nil, Contains-head, Contains-cons}
use Rattle.epx_types.proofs.Common.{Contains-cons_cases, Contains-filter, Contains-from_filter}
use Rattle.epx_types.proofs.Common.{Instance, Placed}
use Rattle.std.proofs.lemmas.List.Folds.{list_any_at}
use Rattle.epx_compare.specs.Differences.{some_differ, differing_members, named_if}
use Rattle.epx_versions.specs.LineVersions.{versions_of}
use Rattle.epx_compare.specs.declared.members.Members.{Members}
use Rattle.epx_versions.specs.SameInstances.{same_seq, same_deps, same_ops, same_instance}
use Rattle.epx_versions.specs.inner.EqualVersions.{same_seq-decides, same_deps-decides}
use Rattle.epx_versions.specs.inner.EqualVersions.{same_ops-decides}
use Rattle.epx_versions.specs.inner.EqualVersions.{same_instance-equal}
use Rattle.epx_compare.specs.inner.NumberedVersions.{version_at, later_differs, differs_from}
use Rattle.epx_compare.specs.inner.NumberedVersions.{AreDiffering, names_of}

-- ---- what the code compares

list_any-map : {X Y : Type 0} (f : X → Y) (test : Y → Bool) (xs : List X)
    → list_any test (map f xs) ≡ list_any (λ x. test (f x)) xs
list_any-map f test [] = refl
list_any-map f test (x ∷ xs) = ap (λ b. test (f x) || b) (list_any-map f test xs)

later_differs-first : (same : Instance → Instance → Bool) (versions : List Instance) (e : Instance)
    (n : ℕ) (later numbers : List ℕ) → numbers ≡ n ∷ later → e ≡ version_at versions n
    → differs_from same e versions later ≡ later_differs same (map (version_at versions) numbers)
later_differs-first same versions e n later numbers parts first =
    ap (λ d. differs_from same d versions later) first
    ∙ (sym (list_any-map (version_at versions)
    (λ f. not (same (version_at versions n) f)) later)
    ∙ sym (ap (λ ns. later_differs same (map (version_at versions) ns)) parts))

-- it is enough to compare each version with the first
pub AreDiffering-from_first : (versions : List Instance) (e : Instance) (n : ℕ)
    (later numbers : List ℕ) (m : Members) → numbers ≡ n ∷ later → e ≡ version_at versions n
    → m.seq ≡ differs_from same_seq e versions later
    → m.deps ≡ differs_from same_deps e versions later
    → m.ops ≡ differs_from same_ops e versions later
    → AreDiffering (map (version_at versions) numbers) m
AreDiffering-from_first versions e n later numbers m parts first seq deps ops = record {
  seq = seq ∙ later_differs-first same_seq versions e n later numbers parts first;
  deps = deps ∙ later_differs-first same_deps versions e n later numbers parts first;
  ops = ops ∙ later_differs-first same_ops versions e n later numbers parts first;
}

-- ---- versions and lines

-- a line's instance is a version
version-from_line : (lines : List Placed) (p : Placed) → Contains lines p
    → Contains (versions_of lines) p.instance
version-from_line [] p among = absurd (Contains-nil p among)
version-from_line (q ∷ lines) p among =
    elim (Contains-cons_cases q lines p among) [
      | inl same ↦ subst (Contains (versions_of (q ∷ lines))) (ap (λ r. r.instance) same)
          (Contains-head q.instance (others q lines))
      | inr later ↦
          by q lines p.instance (version-from_line lines p later)
          (same_instance q.instance p.instance) refl
    ] where
      others : Placed → List Placed → List Instance
      others q lines = filter (λ e. not (same_instance q.instance e)) (versions_of lines)

      by : (q : Placed) (lines : List Placed) (e : Instance) → Contains (versions_of lines) e
          → (b : Bool) → same_instance q.instance e ≡ b
          → Contains (q.instance ∷ filter (λ d. not (same_instance q.instance d))
          (versions_of lines)) e
      by q lines e among true same =
          let rest = filter (λ d. not (same_instance q.instance d)) (versions_of lines) in
          subst (Contains (q.instance ∷ rest)) (same_instance-equal q.instance e same)
          (Contains-head q.instance rest)
      by q lines e among false other =
          let test = λ (d : Instance). not (same_instance q.instance d) in
          Contains-cons q.instance (filter test (versions_of lines)) e
          (Contains-filter test (versions_of lines) e among (ap not other))

-- a version is a line's instance
line-from_version : (lines : List Placed) (e : Instance) → Contains (versions_of lines) e
    → (p : Placed) × Contains lines p × (p.instance ≡ e)
line-from_version [] e among = absurd (Contains-nil e among)
line-from_version (q ∷ lines) e among =
    let test = λ (d : Instance). not (same_instance q.instance d) in
    elim (Contains-cons_cases q.instance (filter test (versions_of lines)) e among) [
      | inl same ↦ (q, Contains-head q lines, same)
      | inr later ↦
          let found = line-from_version lines e
          (Contains-from_filter test (versions_of lines) e later) in
          (found.0, Contains-cons q lines found.0 found.1, found.2)
    ]

-- ---- members

pub list_any-found : {X : Type 0} (test : X → Bool) (xs : List X) → list_any test xs ≡ true
    → (x : X) × Contains xs x × (test x ≡ true)
list_any-found test [] h = absurd (cc)
list_any-found {X} test (x ∷ xs) h = by (list_any-found test xs) (test x) refl h where
  by : (list_any test xs ≡ true → (y : X) × Contains xs y × (test y ≡ true)) → (b : Bool)
      → test x ≡ b → (b || list_any test xs) ≡ true
      → (y : X) × Contains (x ∷ xs) y × (test y ≡ true)
  by rest true passes k = (x, Contains-head x xs, passes)
  by rest false fails k =
      let found = rest k in (found.0, Contains-cons x xs found.0 found.1, found.2)

pub list_any-from : {X : Type 0} (test : X → Bool) (xs : List X) (x : X) → Contains xs x
    → test x ≡ true → list_any test xs ≡ true
list_any-from test xs x among passes =
    list_any_at test xs among.0 x among.1 (ap test among.2 ∙ passes)

both_ways : (a b : Bool) → (a ≡ true → b ≡ true) → (b ≡ true → a ≡ true) → a ≡ b
both_ways true b f g = sym (f refl)
both_ways false true f g = g refl
both_ways false false f g = refl

module _ {A : Type 0} (same : Instance → Instance → Bool) (of : Instance → A)
    (decides : (d e : Instance) → Decides (same d e) (of d ≡ of e)) where
  as_first : (e : Instance) (es : List Instance) (d : Instance)
      → list_any (λ x. not (same e x)) es ≡ false → Contains (e ∷ es) d → of e ≡ of d
  as_first e es d none among =
      elim (Contains-cons_cases e es d among) [
        | inl equal ↦ ap of equal
        | inr later ↦ by (same e d) refl later
      ] where
        by : (b : Bool) → same e d ≡ b → Contains es d → of e ≡ of d
        by true h later = (decides e d).0 h
        by false h later =
            let some = list_any-from (λ x. not (same e x)) es d later (ap not h) in
            absurd (cc)

  differ-from_later : (lines : List Placed) (es : List Instance) → versions_of lines ≡ es
      → later_differs same es ≡ true → some_differ same lines ≡ true
  differ-from_later lines [] are h = absurd (cc)
  differ-from_later lines (e ∷ es) are h =
      let found = list_any-found (λ x. not (same e x)) es h in
      let d = found.0 in
      let p = line-from_version lines e (subst (λ xs. Contains xs e) (sym are)
      (Contains-head e es)) in
      let q = line-from_version lines d (subst (λ xs. Contains xs d) (sym are)
      (Contains-cons e es d found.1)) in
      let differs : not (same p.0.instance q.0.instance) ≡ true =
      (λ i. not (same (p.2 i) (q.2 i))) ∙ found.2 in
      list_any-from (λ r. list_any (λ s. not (same r.instance s.instance)) lines) lines p.0 p.1
      (list_any-from (λ s. not (same p.0.instance s.instance)) lines q.0 q.1 differs)

  later-from_differ : (lines : List Placed) (es : List Instance) → versions_of lines ≡ es
      → some_differ same lines ≡ true → (b : Bool) → later_differs same es ≡ b → b ≡ true
  later-from_differ lines es are h true later = refl
  later-from_differ lines [] are h false later =
      let found = list_any-found
      (λ r. list_any (λ s. not (same r.instance s.instance)) lines) lines h in
      absurd (Contains-nil found.0.instance (subst (λ xs. Contains xs found.0.instance) are
      (version-from_line lines found.0 found.1)))
  later-from_differ lines (e ∷ es) are h false later =
      let p = list_any-found
      (λ r. list_any (λ s. not (same r.instance s.instance)) lines) lines h in
      let q = list_any-found (λ s. not (same p.0.instance s.instance)) lines p.2 in
      let first = as_first e es p.0.instance later (subst (λ xs. Contains xs p.0.instance) are
      (version-from_line lines p.0 p.1)) in
      let second = as_first e es q.0.instance later (subst (λ xs. Contains xs q.0.instance) are
      (version-from_line lines q.0 q.1)) in
      let yes = (decides p.0.instance q.0.instance).1 (sym first ∙ second) in
      let no = q.2 in
      absurd (let e = ap not (sym yes) ∙ no in cc)

  some_differ-from_later : (lines : List Placed)
      → some_differ same lines ≡ later_differs same (versions_of lines)
  some_differ-from_later lines =
      both_ways (some_differ same lines) (later_differs same (versions_of lines))
      (λ h. later-from_differ lines (versions_of lines) refl h
      (later_differs same (versions_of lines)) refl)
      (differ-from_later lines (versions_of lines) refl)

-- lines differ in the members in which their versions do
pub differing_members-are : (lines : List Placed) (m : Members)
    → AreDiffering (versions_of lines) m → differing_members lines ≡ names_of m
differing_members-are lines m differing =
    let seq = some_differ-from_later same_seq (λ e. e.seq) same_seq-decides lines
    ∙ sym differing.seq in
    let deps = some_differ-from_later same_deps (λ e. e.deps) same_deps-decides lines
    ∙ sym differing.deps in
    let ops = some_differ-from_later same_ops (λ e. e.ops) same_ops-decides lines
    ∙ sym differing.ops in
    λ i. named_if (seq i) (codes "seq") ++ (named_if (deps i) (codes "deps")
    ++ named_if (ops i) (codes "ops"))
