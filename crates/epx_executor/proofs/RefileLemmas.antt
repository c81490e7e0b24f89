-- What is filed after a call: what stays, and instances that are filed under one that they reach.
use Rattle.std.proofs.Common.{◌≡◌, ◌⊎◌, ◌↔◌, ℕ, ◌+◌, ◌<◌, ◌≤◌, List, [], ◌∷◌, length, take, get_or}
use Rattle.std.proofs.Common.{Contains, Option, Some, None, MatchOption, IfSome, unwrap_or, true}
use Rattle.std.proofs.Common.{false, Result, Ok, Err, OnOk, OnErr, is_ok, sym, ap, ◌∙◌, subst, inl}
use Rattle.std.proofs.Common.{inr, refl}
use Rattle.epx_types.proofs.Common.{take_all, Contains-get_or, IsCommitted, Instance, Reaches}
use Rattle.epx_types.proofs.Common.{Waiting, waiting_ids, Reaches-trans, Contains-from_map}
use Rattle.epx_types.proofs.Common.{Contains-map, Contains-nil}
use Rattle.epx_types.specs.declared.id.Id.{Id}
use Rattle.epx_executor.specs.declared.choose.Choice.{Choice}
use Rattle.epx_executor.specs.inner.Choices.{AreFiledIn, AreWithin, CanRefile, IsRefiled}
use Rattle.epx_executor.specs.inner.Filings.{Filings, IsBlockedBy, IsFiled, IsWay}
use Rattle.epx_executor.proofs.PendingLemmas.{Contains-next}

-- ---- one more is filed

-- the Id behind which `reached` waits at last, or itself
pub IsBlockedBy-last : (filings : Filings) (reached : Id) (r : Option Id)
    → MatchOption r (¬ IsFiled filings reached) (IsBlockedBy filings reached)
    → (reached ≡ unwrap_or r reached) ⊎ IsBlockedBy filings reached (unwrap_or r reached)
IsBlockedBy-last filings reached None h = inl refl
IsBlockedBy-last filings reached (Some y) h = inr h

reaches_on_way : (m : List Instance) (filings : Filings) (x : Id) (via : List Id) (y : Id)
    → AreWithin m filings → IsWay filings x via y → Reaches m x y
reaches_on_way m filings x [] y within way = (within x y way).1
reaches_on_way m filings x (z ∷ via) y within way =
    Reaches-trans m x z y (within x z way.0).1 (reaches_on_way m filings z via y within way.1)

-- one pair more is filed
abbrev FilesOne : Filings → Filings → Id → Id → Type 0
FilesOne old new id last = (x y : Id) → Contains new (x, y)
    ↔ (Contains old (x, y) ⊎ ((x ≡ id) × (y ≡ last)))

module _ {T E : Type 0} (old new : Filings) (id last : Id) (r : Result T E)
    (filed : OnOk r (FilesOne old new id last)) (unchanged : OnErr r (new ≡ old)) where
  -- it is filed, or memory ran out
  filed_or_not : FilesOne old new id last ⊎ ((is_ok r ≡ false) × (new ≡ old))
  filed_or_not = cases r filed unchanged where
    cases : (r : Result T E) → OnOk r (FilesOne old new id last) → OnErr r (new ≡ old)
        → FilesOne old new id last ⊎ ((is_ok r ≡ false) × (new ≡ old))
    cases (Ok _) h is = inl h
    cases (Err _) h is = inr (refl, is)

  pub IsFiled-if_ok : is_ok r ≡ true → IsFiled new id
  IsFiled-if_ok ok =
      elim filed_or_not [
        | inl one ↦ Contains-map (λ (f : Id × Id). f.0) new (id, last)
            ((one id last).1 (inr (refl, refl)))
        | inr not ↦ absurd (cc (ok, not.0))
      ]

  pub Contains-filed_stay : (x y : Id) → Contains old (x, y) → Contains new (x, y)
  Contains-filed_stay x y there =
      elim filed_or_not [
        | inl one ↦ (one x y).1 (inl there)
        | inr not ↦ subst (λ (fs : Filings). Contains fs (x, y)) (sym not.1) there
      ]

  pub Contains-filed_cases : (x y : Id) → Contains new (x, y) → Contains old (x, y)
      ⊎ ((x ≡ id) × (y ≡ last))
  Contains-filed_cases x y there =
      elim filed_or_not [
        | inl one ↦ (one x y).0 there
        | inr not ↦ inl (subst (λ (fs : Filings). Contains fs (x, y)) not.1 there)
      ]

pub IsBlockedBy-cases : (old : Filings) (id reached last x y : Id)
    → (reached ≡ last) ⊎ IsBlockedBy old reached last
    → Contains old (x, y) ⊎ ((x ≡ id) × (y ≡ last))
    → Contains old (x, y) ⊎ ((x ≡ id) × ((reached ≡ y) ⊎ IsBlockedBy old reached y))
IsBlockedBy-cases old id reached last x y is (inl was) = inl was
IsBlockedBy-cases old id reached last x y is (inr new) =
    inr (new.0, subst (λ (z : Id). (reached ≡ z) ⊎ IsBlockedBy old reached z) (sym new.1) is)

pub IsFiled-kept : (old new : Filings) (x : Id) → ((a b : Id) → Contains old (a, b)
    → Contains new (a, b)) → IsFiled old x → IsFiled new x
IsFiled-kept old new x stay filed =
    let from = Contains-from_map (λ (f : Id × Id). f.0) old x filed in
    subst (IsFiled new) from.2
    (Contains-map (λ (f : Id × Id). f.0) new from.0 (stay from.0.0 from.0.1 from.1))

-- what is new is an instance of the map that reaches what it is filed under
pub AreWithin-more : (m : List Instance) (old new : Filings) (id reached : Id)
    → IsCommitted m id → Reaches m id reached → AreWithin m old
    → ((x y : Id) → Contains new (x, y) → Contains old (x, y)
    ⊎ ((x ≡ id) × ((reached ≡ y) ⊎ IsBlockedBy old reached y))) → AreWithin m new
AreWithin-more m old new id reached committed reaches within step x y h =
    elim (step x y h) [
      | inl was ↦ within x y was
      | inr filed ↦ (
        subst (IsCommitted m) (sym filed.0) committed,
        subst (λ (z : Id). Reaches m z y) (sym filed.0) (elim filed.1 [
          | inl here ↦ subst (Reaches m id) here reaches
          | inr blocked ↦ Reaches-trans m id reached y reaches
              (reaches_on_way m old reached blocked.behind.0 y within blocked.behind.1)
        ]),
      )
    ]

-- the pairs of a list, one by one
pub AreWithin-next : (m : List Instance) (old new : Filings) (pairs : List (Id × Id)) (k : ℕ)
    (d : Id × Id) → k < length pairs → AreWithin m pairs → AreWithin m old
    → ((x y : Id) → Contains new (x, y) → Contains old (x, y) ⊎ ((x ≡ (get_or pairs k d).0)
    × (((get_or pairs k d).1 ≡ y) ⊎ IsBlockedBy old (get_or pairs k d).1 y))) → AreWithin m new
AreWithin-next m old new pairs k d l all within step =
    let pair = get_or pairs k d in
    let there = all pair.0 pair.1 (Contains-get_or pairs k d l) in
    AreWithin-more m old new pair.0 pair.1 there.0 there.1 within step

-- ---- some are taken out

-- the pairs are those of `before` whose instances are not listed
abbrev pub AreFiledWithout : Filings → List Id → Filings → Type 0
AreFiledWithout before ids filings = (x y : Id) → Contains filings (x, y)
    ↔ (Contains before (x, y) × (¬ Contains ids x))

pub AreFiledWithout-next : (before old new : Filings) (ids : List Id) (k : ℕ) (d : Id)
    → k < length ids → AreFiledWithout before (take k ids) old
    → ((x y : Id) → Contains new (x, y) ↔ (Contains old (x, y) × ¬ (x ≡ get_or ids k d)))
    → AreFiledWithout before (take (k + 1) ids) new
AreFiledWithout-next before old new ids k d l are step = λ x y.
    let next = Contains-next ids k d x l in (
      λ h.
          let was = (step x y).0 h in
          let old = (are x y).0 was.0 in (
            old.0,
            λ there. elim (next.0 there)
                [ inl earlier ↦ old.1 earlier | inr here ↦ was.1 (sym here) ],
          ),
      λ h. (step x y).1 (
        (are x y).1 (h.0, λ earlier. h.1 (next.1 (inl earlier))),
        λ here. h.1 (next.1 (inr (sym here))),
      ),
    )

pub AreFiledWithout-all : (before filings : Filings) (ids : List Id) (k : ℕ) → length ids ≤ k
    → AreFiledWithout before (take k ids) filings → AreFiledWithout before ids filings
AreFiledWithout-all before filings ids k l are =
    subst (λ (xs : List Id). AreFiledWithout before xs filings) (take_all k ids l) are

-- ---- those that wait

pub IsFiled-waiters_next : (ws : List Waiting) (k : ℕ) (w : Waiting) (old new : Filings)
    → k < length ws
    → get_or ws k w ≡ w
    → ((x : Id) → Contains (waiting_ids (take k ws)) x → IsFiled old x)
    → ((x y : Id) → Contains old (x, y) → Contains new (x, y)) → IsFiled new w.id
    → (x : Id) → Contains (waiting_ids (take (k + 1) ws)) x → IsFiled new x
IsFiled-waiters_next ws k w old new l here filed stay now = λ x h.
    let from = Contains-from_map (λ (v : Waiting). v.id) (take (k + 1) ws) x h in
    elim ((Contains-next ws k w from.0 l).0 from.1) [
      | inl before ↦ IsFiled-kept old new x stay (filed x (subst
          (Contains (waiting_ids (take k ws))) from.2
          (Contains-map (λ (v : Waiting). v.id) (take k ws) from.0 before)))
      | inr is ↦ subst (IsFiled new)
          (ap (λ (v : Waiting). v.id) (sym here ∙ is) ∙ from.2) now
    ]

pub IsFiled-waiters_all : (ws : List Waiting) (k : ℕ) (filings : Filings) → length ws ≤ k
    → ((x : Id) → Contains (waiting_ids (take k ws)) x → IsFiled filings x)
    → (x : Id) → Contains (waiting_ids ws) x → IsFiled filings x
IsFiled-waiters_all ws k filings l filed = subst (λ (vs : List Waiting).
    (x : Id) → Contains (waiting_ids vs) x → IsFiled filings x) (take_all k ws l) filed

-- ---- after a call

AreFiledIn-refiled : (m : List Instance) (before kept blocked after : Filings)
    (ids : List Id) (pairs : List (Id × Id)) (waiters : List Waiting)
    → CanRefile m before ids pairs waiters → AreFiledWithout before ids kept
    → ((x y : Id) → Contains kept (x, y) → Contains blocked (x, y))
    → (AreWithin m pairs → AreWithin m kept → AreWithin m blocked)
    → ((x y : Id) → Contains blocked (x, y) → Contains after (x, y))
    → ((x : Id) → Contains (waiting_ids waiters) x → IsFiled after x)
    → (AreWithin m blocked → ((w : Waiting) → Contains waiters w
    → IsCommitted m w.id × Reaches m w.id w.missing) → AreWithin m after)
    → AreFiledIn m after
AreFiledIn-refiled m before kept blocked after ids pairs waiters can without stay more stay' filed
    more' =
    let within = more' (more can.need_missing (λ x y h.
    let was = (without x y).0 h in can.kept x y was.0 was.1)) can.waiting in record {
      whole = λ x. (
        λ h. elim (can.whole x h) [
          | inl was ↦
              let from = Contains-from_map (λ (f : Id × Id). f.0) before x was.0 in
              subst (IsFiled after) from.2 (Contains-map (λ (f : Id × Id). f.0) after from.0
              (stay' from.0.0 from.0.1 (stay from.0.0 from.0.1 ((without from.0.0 from.0.1).1
              (from.1, subst (λ (z : Id). ¬ Contains ids z) (sym from.2) was.1)))))
          | inr waits ↦ filed x waits
        ],
        λ h.
            let from = Contains-from_map (λ (f : Id × Id). f.0) after x h in
            subst (IsCommitted m) from.2 (within from.0.0 from.0.1 from.1).0,
      );
      reach = λ x y h. (within x y h).1;
    }

pub IfSome-refiled : (before kept blocked : Filings) (r : Option Filings) (ids : List Id)
    (pairs : List (Id × Id)) (waiters : List Waiting) → AreFiledWithout before ids kept
    → ((x y : Id) → Contains kept (x, y) → Contains blocked (x, y))
    → ((m : List Instance) → AreWithin m pairs → AreWithin m kept → AreWithin m blocked)
    → IfSome r (λ after. (x y : Id) → Contains blocked (x, y) → Contains after (x, y))
    → IfSome r (λ after. (x : Id) → Contains (waiting_ids waiters) x → IsFiled after x)
    → IfSome r (λ after. (m : List Instance) → AreWithin m blocked
    → ((w : Waiting) → Contains waiters w → IsCommitted m w.id × Reaches m w.id w.missing)
    → AreWithin m after)
    → IfSome r (λ after. (m : List Instance) → CanRefile m before ids pairs waiters
    → AreFiledIn m after)
IfSome-refiled before kept blocked None ids pairs waiters without stay more stay' filed more' = tt
IfSome-refiled before kept blocked (Some after) ids pairs waiters without stay more stay' filed
    more' =
    λ m can. AreFiledIn-refiled m before kept blocked after ids pairs waiters can without stay
    (more m) stay' filed (more' m)

-- with nothing filed before
pub IfSome-refiled_anew : (none : Filings) (r : Option Filings) (waiters : List Waiting) → none ≡ []
    → IfSome r (λ after. (x : Id) → Contains (waiting_ids waiters) x → IsFiled after x)
    → IfSome r (λ after. (m : List Instance) → AreWithin m none
    → ((w : Waiting) → Contains waiters w → IsCommitted m w.id × Reaches m w.id w.missing)
    → AreWithin m after)
    → IfSome r (λ after. (m : List Instance) → CanRefile m [] [] [] waiters → AreFiledIn m after)
IfSome-refiled_anew none r waiters is filed more =
    IfSome-refiled [] [] [] r [] [] waiters (λ x y. (
      λ h. absurd (Contains-nil (x, y) h),
      λ h. h.0,
    )) (λ x y h. h) (λ m a b. b) (stays r) filed (subst (λ (fs : Filings).
    IfSome r (λ after. (m : List Instance) → AreWithin m fs
    → ((w : Waiting) → Contains waiters w → IsCommitted m w.id × Reaches m w.id w.missing)
    → AreWithin m after)) is more)
  where
    stays : (r : Option Filings)
        → IfSome r (λ after. (x y : Id) → Contains {X = Id × Id} [] (x, y)
        → Contains after (x, y))
    stays None = tt
    stays (Some after) = λ x y h. absurd (Contains-nil (x, y) h)

-- nothing was filed before, or no choice was made
pub IfSome-refiled_whole : (before : Option Filings) (choice : Option Choice)
    (waiters : List Waiting)
    (r : Option Filings) → ((b : Filings) (c : Choice) → before ≡ Some b → ¬ (choice ≡ Some c))
    → IfSome r (λ after. (m : List Instance) → CanRefile m [] [] [] waiters → AreFiledIn m after)
    → IfSome r (IsRefiled before choice waiters)
IfSome-refiled_whole None choice waiters r not_both h = h
IfSome-refiled_whole (Some b) None waiters r not_both h = h
IfSome-refiled_whole (Some b) (Some c) waiters r not_both h = absurd (not_both b c refl refl)
