-- Instances that are filed, and who waits behind whom.
use Rattle.std.proofs.Common.{◌≡◌, ◌⊎◌, ◌↔◌, ℕ, zero, suc, ◌+◌, ◌<◌, ◌≤◌, List, [], ◌∷◌, ◌++◌}
use Rattle.std.proofs.Common.{length, get_or, Contains, All, refl, sym, ap, subst, inl, inr, ◌∙◌}
use Rattle.std.proofs.Common.{arith, false}
use Rattle.epx_types.proofs.Common.{eq_by_cmp, keys_of, cases_Bool, get_or_default}
use Rattle.std.specs.List.{IsDistinct}
use Rattle.epx_types.proofs.Common.{Contains-from_any, list_any-from_Contains, id_cmp, Id-cases}
use Rattle.epx_types.proofs.Common.{id_cmp-IsTotalOrder, id_cmp-IsAntisymmetric}
use Rattle.epx_types.proofs.Common.{Contains-cons_cases}
use Rattle.epx_types.proofs.Common.{Contains-map, Contains-from_map, Contains-nil}
use Rattle.epx_types.specs.declared.id.Id.{Id}
use Rattle.std.specs.Cmp.{eq_by_cmp_equiv}
use Rattle.std.proofs.lemmas.List.Elements.{recursion_from_All}
use Rattle.std.proofs.lemmas.Map.Entries.{length-keys_of}
use Rattle.std.proofs.lemmas.Map.Keys.{IsDistinct-cons}
use Rattle.std.proofs.lemmas.Map.Made.{length-le_from_is_member}
use Rattle.std.proofs.lemmas.Map.Views.{tells_apart}
use Rattle.epx_executor.specs.inner.Filings.{AreFilings, Filings, IsBehind, IsBlockedBy, IsFiled}
use Rattle.epx_executor.specs.inner.Filings.{IsWay}

-- ---- what is filed

pub IsFiled-under : (filings : Filings) (x y : Id) → Contains filings (x, y) → IsFiled filings x
IsFiled-under filings x y h = Contains-map (λ (f : Id × Id). f.0) filings (x, y) h

-- the Id under which an instance is filed
pub Contains-filed_under : (filings : Filings) (x : Id) → IsFiled filings x
    → (y : Id) × Contains filings (x, y)
Contains-filed_under filings x h =
    let r = Contains-from_map (λ (f : Id × Id). f.0) filings x h in
    (r.0.1, subst (λ (w : Id). Contains filings (w, r.0.1)) r.2 r.1)

pub IsFiled-more : (filings more : Filings)
    → ((x y : Id) → Contains filings (x, y) → Contains more (x, y)) → (x : Id)
    → IsFiled filings x → IsFiled more x
IsFiled-more filings more whole x h =
    let r = Contains-filed_under filings x h in
    IsFiled-under more x r.0 (whole x r.0 r.1)

-- ---- ways

-- x is filed under y, which waits behind z
pub IsBehind-cases : (filings : Filings) (x y z : Id) → Contains filings (x, y)
    → IsBehind filings y z → IsBehind filings x z
IsBehind-cases filings x y z first rest = (y ∷ rest.0, (first, rest.1))

IsWay-push : (filings : Filings) (x : Id) (via : List Id) (y z : Id) → IsWay filings x via y
    → Contains filings (y, z) → IsWay filings x (via ++ y ∷ []) z
IsWay-push filings x [] y z h last = (h, last)
IsWay-push filings x (w ∷ via) y z h last = (h.0, IsWay-push filings w via y z h.1 last)

-- x waits behind y, which is filed under z
pub IsBehind-last : (filings : Filings) (x y z : Id) → IsBehind filings x y
    → Contains filings (y, z) → IsBehind filings x z
IsBehind-last filings x y z h last =
    (h.0 ++ y ∷ [], IsWay-push filings x h.0 y z h.1 last)

-- a way stays when more is filed
pub IsWay-more : (filings more : Filings)
    → ((x y : Id) → Contains filings (x, y) → Contains more (x, y)) → (x : Id) (via : List Id)
    (y : Id) → IsWay filings x via y → IsWay more x via y
IsWay-more filings more whole x [] y h = whole x y h
IsWay-more filings more whole x (z ∷ via) y h =
    (whole x z h.0, IsWay-more filings more whole z via y h.1)

pub IsBehind-more : (filings more : Filings)
    → ((x y : Id) → Contains filings (x, y) → Contains more (x, y)) → (x y : Id)
    → IsBehind filings x y → IsBehind more x y
IsBehind-more filings more whole x y h =
    (h.0, IsWay-more filings more whole x h.0 y h.1)

-- a set of Ids with all that is filed under its members has all that waits behind them
pub IsBehind-closed : (filings : Filings) (P Q : Id → Type 0)
    → ((x y : Id) → Contains filings (x, y) → Q y → P x)
    → ((x y : Id) → Contains filings (x, y) → P y → P x)
    → (x y : Id) → Q y → IsBehind filings x y → P x
IsBehind-closed filings P Q first more x y q h = by x h.0 h.1 where
  by : (x : Id) (via : List Id) → IsWay filings x via y → P x
  by x [] way = first x y way q
  by x (z ∷ via) way = more x z way.0 (by z via way.1)

-- ---- one more is filed

-- an instance that is not filed, under another one that is not
module _ (old new : Filings) (id under : Id) (not_filed : ¬ IsFiled old id)
    (free : ¬ IsFiled old under) (other : ¬ (id ≡ under))
    (filed : (x y : Id) → Contains new (x, y) ↔ (Contains old (x, y) ⊎ ((x ≡ id) × (y ≡ under))))
    (are : AreFilings old) where
  added_whole : (x y : Id) → Contains old (x, y) → Contains new (x, y)
  added_whole x y h = (filed x y).1 (inl h)

  added_apart : (x : Id) → IsFiled old x → ¬ (x ≡ id)
  added_apart x h e = not_filed (subst (IsFiled old) e h)

  added_once : (x y z : Id) → Contains new (x, y) → Contains new (x, z) → y ≡ z
  added_once x y z h k = elim ((filed x y).0 h) [
    | inl p ↦ elim ((filed x z).0 k) [
      | inl q ↦ are.once x y z p q
      | inr q ↦ absurd (added_apart x (IsFiled-under old x y p) q.0)
    ]
    | inr p ↦ elim ((filed x z).0 k) [
      | inl q ↦ absurd (added_apart x (IsFiled-under old x z q) p.0)
      | inr q ↦ p.1 ∙ sym q.1
    ]
  ]

  added_filed : (x : Id) → IsFiled new x → IsFiled old x ⊎ (x ≡ id)
  added_filed x h = let r = Contains-filed_under new x h in elim ((filed x r.0).0 r.1) [
    | inl p ↦ inl (IsFiled-under old x r.0 p)
    | inr p ↦ inr p.0
  ]

  added_free : ¬ IsFiled new under
  added_free h = elim (added_filed under h) [
    | inl p ↦ free p
    | inr e ↦ other (sym e)
  ]

  added_new : IsBlockedBy new id under
  added_new = record {
    behind = ([], (filed id under).1 (inr (refl, refl)));
    last = added_free;
  }

  added_old : (x : Id) → IsFiled old x → (y : Id) × IsBlockedBy new x y
  added_old x h =
      let r = are.blocked x h in
      let behind : IsBehind new x r.0 = IsBehind-more old new added_whole x r.0 r.1.behind in
      elim (Id-cases r.0 id) [
        | inl e ↦ (
          under,
          record {
            behind = IsBehind-last new x r.0 under behind ((filed r.0 under).1 (inr (e, refl)));
            last = added_free;
          },
        )
        | inr apart ↦ (
          r.0,
          record {
            behind = behind;
            last = λ k. elim (added_filed r.0 k) [
              | inl p ↦ r.1.last p
              | inr e ↦ apart e
            ];
          },
        )
      ]

  pub AreFilings-added : AreFilings new
  AreFilings-added = record {
    once = added_once;
    blocked = λ x h. elim (added_filed x h) [
      | inl p ↦ added_old x p
      | inr e ↦ (under, subst (λ (w : Id). IsBlockedBy new w under) (sym e) added_new)
    ];
  }

-- ---- one is taken out

module _ (old new : Filings) (id : Id)
    (left : (x y : Id) → Contains new (x, y) ↔ (Contains old (x, y) × ¬ (x ≡ id)))
    (are : AreFilings old) where
  left_free : ¬ IsFiled new id
  left_free h = let r = Contains-filed_under new id h in ((left id r.0).0 r.1).1 refl

  left_filed : (x : Id) → IsFiled new x → IsFiled old x
  left_filed = IsFiled-more new old (λ x y h. ((left x y).0 h).0)

  -- the way to the last one, or to the one that is taken out
  left_way : (x : Id) (via : List Id) (y : Id) → ¬ (x ≡ id) → IsWay old x via y
      → ¬ IsFiled old y → (z : Id) × IsBlockedBy new x z
  left_way x [] y apart way last = (
    y,
    record {
      behind = ([], (left x y).1 (way, apart));
      last = λ h. last (left_filed y h);
    },
  )
  left_way x (w ∷ via) y apart way last =
      let first : Contains new (x, w) = (left x w).1 (way.0, apart) in
      elim (Id-cases w id) [
        | inl e ↦ (
          w,
          record {
            behind = ([], first);
            last = λ h. left_free (subst (IsFiled new) e h);
          },
        )
        | inr further ↦
            let r = left_way w via y further way.1 last in (
              r.0,
              record {
                behind = IsBehind-cases new x w r.0 first r.1.behind;
                last = r.1.last;
              },
            )
      ]

  pub AreFilings-left : AreFilings new
  AreFilings-left = record {
    once = λ x y z h k. are.once x y z ((left x y).0 h).0 ((left x z).0 k).0;
    blocked = λ x h.
        let under = Contains-filed_under new x h in
        let r = are.blocked x (left_filed x h) in
        left_way x r.1.behind.0 r.0 ((left x under.0).0 under.1).1 r.1.behind.1 r.1.last;
  }

-- ---- how long a way is

-- the way from x ends after k steps at an Id that is not filed
abbrev pub EndsAfter : Filings → ℕ → Id → Type 0
EndsAfter filings zero x = ¬ IsFiled filings x
EndsAfter filings (suc k) x = (y : Id) × Contains filings (x, y) × EndsAfter filings k y

ends_after_way : (filings : Filings) (x : Id) (via : List Id) (y : Id) → IsWay filings x via y
    → ¬ IsFiled filings y → (k : ℕ) × EndsAfter filings (suc k) x
ends_after_way filings x [] y way last = (0, (y, way, last))
ends_after_way filings x (z ∷ via) y way last =
    let r = ends_after_way filings z via y way.1 last in
    (suc r.0, (z, way.0, r.1))

-- Ids that are filed and differ are at most as many as what is filed
pub length-le_from_filed : (filings : Filings) (ids : List Id) → IsDistinct (eq_by_cmp id_cmp) ids
    → ((x : Id) → Contains ids x → IsFiled filings x) → length ids ≤ length filings
length-le_from_filed filings ids distinct filed =
    let le : length ids ≤ length (keys_of filings) =
    length-le_from_is_member (eq_by_cmp_equiv id_cmp-IsTotalOrder) ids (keys_of filings) distinct
    (λ q h. list_any-from_Contains (eq_by_cmp_equiv id_cmp-IsTotalOrder) q (keys_of filings)
    (filed q (Contains-from_any (tells_apart id_cmp-IsAntisymmetric) q ids h))) in
    omega (arith, le, length-keys_of filings)

-- x waits behind y, from which the way ends before a number of steps
pub record IsOnWay (filings : Filings) (x y : Id) (limit : ℕ) : Type 0 where
  pub behind : IsBehind filings x y
  pub steps : ℕ
  pub ends : EndsAfter filings steps y
  pub few : steps < limit

module _ (filings : Filings) (are : AreFilings filings) where
  ends_once : (j k : ℕ) (x : Id) → EndsAfter filings j x → EndsAfter filings k x → j ≡ k
  ends_once zero zero x p q = refl
  ends_once zero (suc k) x p q = absurd (p (IsFiled-under filings x q.0 q.1))
  ends_once (suc j) zero x p q = absurd (q (IsFiled-under filings x p.0 p.1))
  ends_once (suc j) (suc k) x p q =
      ap (λ (n : ℕ). suc n) (ends_once j k p.0 p.2
      (subst (EndsAfter filings k) (are.once x q.0 p.0 q.1 p.1) q.2))

  -- the filed Ids on the way from x
  abbrev on_way : (k : ℕ) (x : Id) → EndsAfter filings k x → List Id
  on_way zero x e = []
  on_way (suc k) x e = x ∷ on_way k e.0 e.2

  length-on_way : (k : ℕ) (x : Id) (e : EndsAfter filings k x) → length (on_way k x e) ≡ k
  length-on_way zero x e = refl
  length-on_way (suc k) x e = ap (λ (n : ℕ). suc n) (length-on_way k e.0 e.2)

  ends_on_way : (k : ℕ) (x : Id) (e : EndsAfter filings k x) (z : Id)
      → Contains (on_way k x e) z → (j : ℕ) × (j < k) × EndsAfter filings (suc j) z
  ends_on_way zero x e z h = absurd (Contains-nil z h)
  ends_on_way (suc k) x e z h = elim (Contains-cons_cases x (on_way k e.0 e.2) z h) [
    | inl same ↦ (k, omega arith, subst (EndsAfter filings (suc k)) same e)
    | inr later ↦
        let r = ends_on_way k e.0 e.2 z later in
        (r.0, omega (arith, r.1), r.2)
  ]

  IsDistinct-on_way : (k : ℕ) (x : Id) (e : EndsAfter filings k x)
      → IsDistinct (eq_by_cmp id_cmp) (on_way k x e)
  unfolding IsDistinct
  IsDistinct-on_way zero x e = tt
  IsDistinct-on_way (suc k) x e =
      IsDistinct-cons (eq_by_cmp id_cmp) x (on_way k e.0 e.2)
      (recursion_from_All (λ (z : Id). eq_by_cmp id_cmp x z ≡ false) (on_way k e.0 e.2) apart)
      (IsDistinct-on_way k e.0 e.2) where
        apart : All (λ z. eq_by_cmp id_cmp x z ≡ false) (on_way k e.0 e.2)
        apart i d l = elim (cases_Bool (eq_by_cmp id_cmp x (get_or (on_way k e.0 e.2) i d))) [
          | inl equal ↦
              let z = get_or (on_way k e.0 e.2) i d in
              let r = ends_on_way k e.0 e.2 z
              (i, l, get_or_default (on_way k e.0 e.2) i z d l) in
              let same : x ≡ z = tells_apart id_cmp-IsAntisymmetric x z equal in
              let here : EndsAfter filings (suc r.0) x =
              subst (EndsAfter filings (suc r.0)) (sym same) r.2 in
              let again : suc k ≡ suc r.0 = ends_once (suc k) (suc r.0) x e here in
              absurd (omega (arith, r.1, again))
          | inr differs ↦ differs
        ]

  ends_within : (k : ℕ) (x : Id) → EndsAfter filings k x → k ≤ length filings
  ends_within k x e =
      let le = length-le_from_filed filings (on_way k x e) (IsDistinct-on_way k x e)
      (λ z h. let r = ends_on_way k x e z h in IsFiled-under filings z r.2.0 r.2.1) in
      omega (arith, le, length-on_way k x e)

  pub IsOnWay-first : (x y : Id) (limit : ℕ) → limit ≡ length filings → Contains filings (x, y)
      → IsOnWay filings x y limit
  IsOnWay-first x y limit e h =
      let r = are.blocked x (IsFiled-under filings x y h) in
      let way = ends_after_way filings x r.1.behind.0 r.0 r.1.behind.1 r.1.last in
      record {
        behind = ([], h);
        steps = way.0;
        ends = subst (EndsAfter filings way.0) (are.once x way.1.0 y way.1.1 h) way.1.2;
        few = omega (arith, e, ends_within (suc way.0) x way.1);
      }

  pub IsOnWay-next : (x y z : Id) (limit less : ℕ) → limit ≡ less + 1 → IsOnWay filings x y limit
      → Contains filings (y, z) → IsOnWay filings x z less
  IsOnWay-next x y z limit less e on h = by on.steps on.ends on.few where
    by : (k : ℕ) → EndsAfter filings k y → k < limit → IsOnWay filings x z less
    by zero ends few = absurd (ends (IsFiled-under filings y z h))
    by (suc k) ends few = record {
      behind = IsBehind-last filings x y z on.behind h;
      steps = k;
      ends = subst (EndsAfter filings k) (are.once y ends.0 z ends.1 h) ends.2;
      few = omega (arith, few, e);
    }
