-- There is exactly one text that says which missing instances to recover first.
use Rattle.std.proofs.Common.{◌≡◌, inl, inr, List, [], ◌∷◌, ◌++◌, flat_map, map, Contains}
use Rattle.std.proofs.Common.{refl, sym, ap₂, subst, ◌∙◌}
use Rattle.epx_types.proofs.Common.{Below, Instance, ids_of, DependsOn, id_cmp-IsTotalOrder}
use Rattle.epx_types.proofs.Common.{AllPairs-from_rising_ids, is_lt-irrefl, is_lt-trans}
use Rattle.epx_types.proofs.Common.{AllPairs-is_unique, Contains-nil, Contains-cons_cases}
use Rattle.epx_types.proofs.Common.{Contains-map}
use Rattle.epx_types.proofs.Common.{Contains-from_map, Contains-flat_map, DependsOn-cases}
use Rattle.epx_types.proofs.Common.{DependsOn-committed}
use Rattle.epx_types.specs.declared.id.Id.{Id}
use Rattle.epx_graph.specs.GraphOf.{IsMissing}
use Rattle.epx_blockers.specs.declared.blocker.Blocker.{Blocker}
use Rattle.epx_blockers.specs.BlockerLaws.{BlockersTextExists, BlockersTextIsUnique}
use Rattle.epx_blockers.specs.BlockerLines.{blocks_line, several_line}
use Rattle.epx_blockers.specs.Blockers.{HasBlockerCounts, AreBlockers}
use Rattle.epx_blockers.specs.Blocking.{BlocksAlone, SeveralBlock}
use Rattle.epx_blockers.specs.IdCounts.{IsListOf, IsCount}
use Rattle.epx_blockers.proofs.IdCountLemmas.{IsCount-is_unique, IsCount-exists, IsListOf-exists}
use Rattle.epx_blockers.proofs.BlockingLemmas.{BlocksAlone-cases, SeveralBlock-cases}
use Rattle.epx_blockers.proofs.BlockingLemmas.{IsMissing-cases}

module _ (m : List Instance) where
  -- ---- at most one

  same_counts : (b c : Blocker) → c.id ≡ b.id → HasBlockerCounts m b → HasBlockerCounts m c → c ≡ b
  same_counts b c same p q =
      let alone : c.alone ≡ b.alone = IsCount-is_unique (BlocksAlone m b.id) c.alone b.alone
      (subst (λ (x : Id). IsCount (BlocksAlone m x) c.alone) same q.alone) p.alone in
      let named : c.named ≡ b.named = IsCount-is_unique (λ x. DependsOn m x b.id) c.named b.named
      (subst (λ (y : Id). IsCount (λ x. DependsOn m x y) c.named) same q.named) p.named in
      λ i. record { id = same i; alone = alone i; named = named i }

  blocker_in : (bs cs : List Blocker) → AreBlockers m bs → AreBlockers m cs → (b : Blocker)
      → Contains bs b → Contains cs b
  blocker_in bs cs p q b h =
      let missing = (p.missing.exact b.id).0 (Contains-map (λ (i : Blocker). i.id) bs b h) in
      let c = Contains-from_map (λ (i : Blocker). i.id) cs b.id
      ((q.missing.exact b.id).1 missing) in
      subst (Contains cs) (same_counts b c.0 c.2 (p.each b h) (q.each c.0 c.1)) c.1

  pub AreBlockers-unique : (bs cs : List Blocker) → AreBlockers m bs → AreBlockers m cs → bs ≡ cs
  AreBlockers-unique bs cs p q =
      AllPairs-is_unique (λ a b. Below a.id b.id) (λ b. is_lt-irrefl id_cmp-IsTotalOrder b.id)
      (λ a b c. is_lt-trans id_cmp-IsTotalOrder a.id b.id c.id)
      bs cs (AllPairs-from_rising_ids (λ (b : Blocker). b.id) bs p.missing.rising)
      (AllPairs-from_rising_ids (λ (b : Blocker). b.id) cs q.missing.rising)
      (blocker_in bs cs p q) (blocker_in cs bs q p)

  -- ---- at least one

  blocker_of : (y : Id) → (b : Blocker) × (b.id ≡ y) × HasBlockerCounts m b
  blocker_of y =
      let alone = IsCount-exists (BlocksAlone m y) (BlocksAlone-cases m y) (ids_of m)
      (λ x a. a.blocks.committed) in
      let named = IsCount-exists (λ x. DependsOn m x y) (λ x. DependsOn-cases m x y) (ids_of m)
      (λ x d. DependsOn-committed m x y d) in (
        record { id = y; alone = alone.0; named = named.0 },
        refl,
        record { alone = alone.1; named = named.1 },
      )

  blockers_of : (ids : List Id) → (bs : List Blocker) × (map (λ b. b.id) bs ≡ ids)
      × ((b : Blocker) → Contains bs b → HasBlockerCounts m b)
  blockers_of [] = ([], refl, λ b h. absurd (Contains-nil b h))
  blockers_of (y ∷ ids) =
      let first = blocker_of y in
      let rest = blockers_of ids in (
        first.0 ∷ rest.0,
        ap₂ (λ z zs. z ∷ zs) first.1 rest.1,
        λ b h. elim (Contains-cons_cases first.0 rest.0 b h) [
          | inl same ↦ subst (HasBlockerCounts m) same first.2
          | inr later ↦ rest.2 b later
        ],
      )

  pub AreBlockers-exists : (bs : List Blocker) × AreBlockers m bs
  AreBlockers-exists =
      let ids = IsListOf-exists (IsMissing m) (IsMissing-cases m) (flat_map (λ e. e.deps) m)
      (λ y missing. let d = missing.0.1 in
      Contains-flat_map (λ (e : Instance). e.deps) m d.0 y d.1 d.3) in
      let bs = blockers_of ids.0 in (
        bs.0,
        record { missing = subst (IsListOf (IsMissing m)) (sym bs.1) ids.1; each = bs.2 },
      )

pub BlockersTextIsUnique-holds : BlockersTextIsUnique
BlockersTextIsUnique-holds m text other p q =
    let blockers = AreBlockers-unique m p.blockers q.blockers p.missing q.missing in
    let several = IsCount-is_unique (SeveralBlock m) p.several q.several p.others q.others in
    p.printed ∙ ap₂ (λ bs n. flat_map blocks_line bs ++ several_line n) blockers several
    ∙ sym q.printed

pub BlockersTextExists-holds : BlockersTextExists
BlockersTextExists-holds m =
    let blockers = AreBlockers-exists m in
    let several = IsCount-exists (SeveralBlock m) (SeveralBlock-cases m) (ids_of m)
    (λ x s. s.2.committed) in (
      flat_map blocks_line blockers.0 ++ several_line several.0,
      record {
        blockers = blockers.0;
        several = several.0;
        missing = blockers.1;
        others = several.1;
        printed = refl;
      },
    )
