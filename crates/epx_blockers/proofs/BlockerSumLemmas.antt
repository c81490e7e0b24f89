-- The instances that one blocks alone, and those that several block, are the ones that wait.
use Rattle.std.proofs.Common.{◌↔◌, ◌⊎◌, inl, inr, ◌+◌, List, [], ◌∷◌, length, map, sum_by}
use Rattle.std.proofs.Common.{Contains, sym, subst}
use Rattle.epx_types.proofs.Common.{Below, IsRising, Instance, WaitsFor, IsWaitingList, Waiting}
use Rattle.epx_types.proofs.Common.{waiting_ids, id_cmp-IsTotalOrder, is_lt-irrefl, AllPairs-head}
use Rattle.epx_types.proofs.Common.{AllPairs-from_IsRising, Contains-nil, Contains-cons}
use Rattle.epx_types.proofs.Common.{Contains-cons_cases, Contains-head, Contains-map}
use Rattle.epx_types.proofs.Common.{Contains-from_map, length-map, sum_by-cons}
use Rattle.epx_types.specs.declared.id.Id.{Id}
use Rattle.epx_blockers.specs.declared.blocker.Blocker.{Blocker}
use Rattle.epx_blockers.specs.BlockerLaws.{CountsAddUpToTheWaiting}
use Rattle.epx_blockers.specs.Blockers.{HasBlockerCounts, AreBlockers}
use Rattle.epx_blockers.specs.Blocking.{BlocksAlone, SeveralBlock}
use Rattle.epx_blockers.specs.IdCounts.{IsCount}
use Rattle.epx_blockers.proofs.IdCountLemmas.{IsCount-is_unique, IsCount-none, IsCount-equivalent}
use Rattle.epx_blockers.proofs.IdCountLemmas.{IsCount-either}
use Rattle.epx_blockers.proofs.BlockingLemmas.{BlockedInstancesWait-holds, BlocksAlone-or_other}
use Rattle.epx_blockers.proofs.BlockingLemmas.{SeveralBlock-not_alone, IsMissing-of_blocker}

module _ (m : List Instance) where
  -- one of these blocks x alone
  abbrev OneBlocksAlone : List Blocker → Id → Type 0
  OneBlocksAlone bs x = (b : Blocker) × Contains bs b × BlocksAlone m b.id x

  alone_apart : (b : Blocker) (bs : List Blocker) → IsRising (map (λ b. b.id) (b ∷ bs)) → (x : Id)
      → BlocksAlone m b.id x → ¬ OneBlocksAlone bs x
  alone_apart b bs rising x a (c, h, other) =
      let below = AllPairs-head Below b.id (map (λ (i : Blocker). i.id) bs) c.id
      (AllPairs-from_IsRising (map (λ (i : Blocker). i.id) (b ∷ bs)) rising)
      (Contains-map (λ (i : Blocker). i.id) bs c h) in
      is_lt-irrefl id_cmp-IsTotalOrder b.id
      (subst (λ (y : Id). Below b.id y) (a.only c.id other.blocks) below)

  alone_counted : (bs : List Blocker) → IsRising (map (λ b. b.id) bs)
      → ((b : Blocker) → Contains bs b → HasBlockerCounts m b)
      → IsCount (OneBlocksAlone bs) (sum_by (λ b. b.alone) bs)
  alone_counted [] rising each = IsCount-none (OneBlocksAlone []) (λ x (b, h, a). Contains-nil b h)
  alone_counted (b ∷ bs) rising each =
      let rest = alone_counted bs rising.1 (λ c h. each c (Contains-cons b bs c h)) in
      subst (IsCount (OneBlocksAlone (b ∷ bs)))
      (sym (sum_by-cons (λ (c : Blocker). c.alone) b bs))
      (IsCount-equivalent (λ x. BlocksAlone m b.id x ⊎ OneBlocksAlone bs x)
      (OneBlocksAlone (b ∷ bs))
      (b.alone + sum_by (λ (c : Blocker). c.alone) bs) (λ x. (
        λ h. elim h [
          | inl a ↦ (b, Contains-head b bs, a)
          | inr (c, there, a) ↦ (c, Contains-cons b bs c there, a)
        ],
        λ (c, there, a). elim (Contains-cons_cases b bs c there) [
          | inl same ↦ inl (subst (λ (i : Blocker). BlocksAlone m i.id x) (sym same) a)
          | inr later ↦ inr (c, later, a)
        ],
      ))
      (IsCount-either (BlocksAlone m b.id) (OneBlocksAlone bs) b.alone
      (sum_by (λ (c : Blocker). c.alone) bs) (each b (Contains-head b bs)).alone rest
      (alone_apart b bs rising)))

  -- each waiting instance
  Waits : Id → Type 0
  Waits x = (y : Id) × WaitsFor m x y

  waiting_counted : (ws : List Waiting) → IsWaitingList m ws → IsCount Waits (length ws)
  unfolding Waits
  waiting_counted ws is = record {
    ids = waiting_ids ws;
    listed = record {
      rising = is.rising;
      exact = λ x. (
        λ h.
            let w = Contains-from_map (λ (w : Waiting). w.id) ws x h in
            (w.0.missing, subst (λ (y : Id). WaitsFor m y w.0.missing) w.2 (is.waits w.0 w.1)),
        λ (y, w). Contains-map (λ (w : Waiting). w.id) ws (record { id = x; missing = y })
            (is.whole x y w),
      );
    };
    counted = length-map ws (λ (w : Waiting). w.id);
  }

  -- a waiting instance is blocked by one alone or by several
  waits_either : (bs : List Blocker) → AreBlockers m bs → (x : Id)
      → (OneBlocksAlone bs x ⊎ SeveralBlock m x) ↔ Waits x
  unfolding Waits
  waits_either bs are x = (
    λ h. (BlockedInstancesWait-holds m x).0 (elim h [
      | inl (b, there, a) ↦ (b.id, a.blocks)
      | inr s ↦ (s.0, s.2)
    ]),
    λ waits.
        let (y, blocks) = (BlockedInstancesWait-holds m x).1 waits in
        elim (BlocksAlone-or_other m y x blocks) [
          | inl a ↦
              let b = Contains-from_map (λ (b : Blocker). b.id) bs y
              ((are.missing.exact y).1 (IsMissing-of_blocker m y x blocks)) in
              inl (b.0, b.1, subst (λ (z : Id). BlocksAlone m z x) (sym b.2) a)
          | inr (z, other, differs) ↦ inr (z, y, other, blocks, differs)
        ],
  )

pub CountsAddUpToTheWaiting-holds : CountsAddUpToTheWaiting
CountsAddUpToTheWaiting-holds m bs several ws are others is =
    let alone = alone_counted m bs are.missing.rising are.each in
    let both = IsCount-either (OneBlocksAlone m bs) (SeveralBlock m)
    (sum_by (λ (b : Blocker). b.alone) bs) several alone others
    (λ x (b, h, a). SeveralBlock-not_alone m b.id x a) in
    IsCount-is_unique (Waits m) (sum_by (λ (b : Blocker). b.alone) bs + several) (length ws)
    (IsCount-equivalent (λ x. OneBlocksAlone m bs x ⊎ SeveralBlock m x) (Waits m)
    (sum_by (λ (b : Blocker). b.alone) bs + several) (waits_either m bs are) both)
    (waiting_counted m ws is)
