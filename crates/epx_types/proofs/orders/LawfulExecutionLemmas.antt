-- Two lawful orders of a covered map execute alike.
use Rattle.std.proofs.Common.{◌≡◌, ◌≢◌, ◌⊎◌, ◌∙◌, ℕ, List, [], ◌∷◌, length, map, Contains, Option}
use Rattle.std.proofs.Common.{Some, None, slice_get, refl, sym, ap, ap₂, subst, inl, inr, arith}
use Rattle.std.proofs.lemmas.List.{length-map}
use Rattle.epx_types.specs.declared.id.Id.{Id}
use Rattle.epx_types.specs.declared.op.Op.{Op}
use Rattle.epx_types.specs.declared.reply.Reply.{Reply}
use Rattle.epx_types.specs.declared.reply.Reply.TheVariants.{Abort}
use Rattle.epx_types.specs.Ids.{IsRising}
use Rattle.epx_types.specs.Instances.{Instance}
use Rattle.epx_types.specs.Contents.{Contents}
use Rattle.epx_types.specs.Conflicts.{Conflict, IsCovered}
use Rattle.epx_types.specs.CommittedMap.{ids_of, instance_of, ops_or_empty, commands_in}
use Rattle.epx_types.specs.Execution.{execute}
use Rattle.epx_types.specs.Reaching.{Reaches}
use Rattle.epx_types.specs.Readiness.{IsReady}
use Rattle.epx_types.specs.LawfulOrders.{Before, IsLawful}
use Rattle.epx_types.proofs.committed.AgreementLemmas.{instance_of-iff_contains}
use Rattle.epx_types.proofs.commands.ExecutionLemmas.{length-replies}
use Rattle.epx_types.proofs.orders.LawfulOrderLemmas.{Before-in_first, Before-in_second}
use Rattle.epx_types.proofs.orders.LawfulOrderLemmas.{Before-alike_reaching, Before-alike_reached}
use Rattle.epx_types.proofs.lists.MembershipLemmas.{map-agree}
use Rattle.epx_types.proofs.lists.ListPositionLemmas.{slice_get-map}
use Rattle.epx_types.proofs.levels.LevelOrderLemmas.{Conflict-not_past_end}
use Rattle.epx_types.proofs.commands.ConflictLemmas.{Conflict-symm}
use Rattle.epx_types.proofs.commands.RearrangedListLemmas.{Once, IsRearranged, ExecutesAlike}
use Rattle.epx_types.proofs.commands.RearrangedListLemmas.{execute-rearranged}
use Rattle.epx_types.proofs.commands.RearrangementLemmas.{Once-from_AllPairs, Precedes-from_Before}
use Rattle.epx_types.proofs.commands.RearrangementLemmas.{AllPairs-Precedes}
use Rattle.epx_types.proofs.lists.BeforeLemmas.{Before-from_Precedes}
use Rattle.epx_types.proofs.graph.WaitingLemmas.{Id-cases}

-- one value at one Id, and those of f at the others
with_value_at : {Y : Type 0} → Id → Y → (Id → Y) → Id → Y
with_value_at x v f y = elim (Id-cases x y) [ inl same ↦ v | inr other ↦ f y ]

with_value_at-same : {Y : Type 0} (x : Id) (v : Y) (f : Id → Y) → with_value_at x v f x ≡ v
unfolding with_value_at
with_value_at-same {Y} x v f = elim (Id-cases x x) as (λ d. by d ≡ v)
    [ inl same ↦ refl | inr other ↦ absurd (other refl) ] where
      by : (x ≡ x) ⊎ (¬ (x ≡ x)) → Y
      by d = elim d [ inl same ↦ v | inr other ↦ f x ]

with_value_at-other : {Y : Type 0} (x y : Id) (v : Y) (f : Id → Y) → ¬ (x ≡ y)
    → with_value_at x v f y ≡ f y
unfolding with_value_at
with_value_at-other {Y} x y v f not =
    elim (Id-cases x y) as (λ d. by d ≡ f y) [
      | inl same ↦ absurd (not same)
      | inr other ↦ refl
    ] where
      by : (x ≡ y) ⊎ (¬ (x ≡ y)) → Y
      by d = elim d [ inl same ↦ v | inr other ↦ f y ]

-- the replies to a list without repeats, as a function of its elements
pub map-of_replies : (ids : List Id) (replies : List Reply) → Once ids → length replies ≡ length ids
    → (f : Id → Reply) × (replies ≡ map f ids)
map-of_replies [] [] once len = (λ x. Abort 0, refl)
map-of_replies [] (r ∷ replies) once len = absurd (omega (arith, len))
map-of_replies (x ∷ ids) [] once len = absurd (omega (arith, len))
map-of_replies (x ∷ ids) (r ∷ replies) once len =
    let rest = map-of_replies ids replies once.1 (omega (arith, len)) in
    let same_rest : map rest.0 ids ≡ map (with_value_at x r rest.0) ids =
    map-agree rest.0 (with_value_at x r rest.0) ids
    (λ y h. sym (with_value_at-other x y r rest.0
    (λ same. once.0 (subst (Contains ids) (sym same) h)))) in (
      with_value_at x r rest.0,
      ap₂ (λ s ss. s ∷ ss) (sym (with_value_at-same x r rest.0))
          (rest.1 ∙ same_rest),
    )

module _ (m : List Instance) (rising : IsRising (ids_of m)) (covered : IsCovered m)
    (ids other : List Id) (lawful : IsLawful m ids) (lawful' : IsLawful m other) where
  -- an instance that conflicts with another is committed
  found : (x : Id) (a : List Op) → Conflict a (ops_or_empty (instance_of m x))
      → (e : Instance) × Contains m e × (e.id ≡ x) × (ops_or_empty (instance_of m x) ≡ e.ops)
  found x a = by (instance_of m x) (λ e is. (instance_of-iff_contains m rising x e).0 is) where
    by : (o : Option Instance) → ((e : Instance) → o ≡ Some e → Contains m e × (e.id ≡ x))
        → Conflict a (ops_or_empty o) → (e : Instance) × Contains m e × (e.id ≡ x)
        × (ops_or_empty o ≡ e.ops)
    by None finds conflict = absurd (Conflict-not_past_end a conflict)
    by (Some e) finds conflict = (e, (finds e refl).0, (finds e refl).1, refl)

  -- instances that conflict come in the same order in both
  conflicts_alike : (x y : Id) → Before ids x y → x ≢ y
      → Conflict (ops_or_empty (instance_of m x)) (ops_or_empty (instance_of m y))
      → Before other x y
  conflicts_alike x y before apart conflict =
      let e = found y (ops_or_empty (instance_of m x)) conflict in
      let d = found x (ops_or_empty (instance_of m y))
      (Conflict-symm (ops_or_empty (instance_of m x)) (ops_or_empty (instance_of m y))
      conflict) in
      let ready = lawful.only x (Before-in_first ids x y before) in
      let ready' = lawful.only y (Before-in_second ids x y before) in
      let related = covered d.0 e.0 d.1 e.1 (λ same. apart (sym d.2 ∙ same ∙ e.2))
      (subst (IsReady m) (sym d.2) ready) (subst (IsReady m) (sym e.2) ready')
      (subst (λ (os : List Op). Conflict os e.0.ops) d.3
      (subst (Conflict (ops_or_empty (instance_of m x))) e.3 conflict)) in
      elim related [
        | inl reaches ↦ Before-alike_reaching m ids other lawful lawful' x y before
            (subst (λ (z : Id). Reaches m z y) d.2 (subst (Reaches m d.0.id) e.2 reaches))
        | inr reached ↦ Before-alike_reached m ids other lawful lawful' x y before
            (subst (λ (z : Id). Reaches m z x) e.2 (subst (Reaches m e.0.id) d.2 reached))
      ]

  rearranged : IsRearranged (λ x. ops_or_empty (instance_of m x)) ids other
  rearranged = record {
    once = Once-from_AllPairs ids lawful.once;
    once_too = Once-from_AllPairs other lawful'.once;
    only = λ x h. lawful'.whole x (lawful.only x h);
    whole = λ x h. lawful.whole x (lawful'.only x h);
    keeps = λ x y h conflict. Precedes-from_Before other x y
        (conflicts_alike x y (Before-from_Precedes ids x y h)
        (AllPairs-Precedes (λ v w. v ≢ w) ids lawful.once x y h) conflict);
  }

  module _ (c : Contents) where
    replies_of : (f : Id → Reply) × ((execute (commands_in m ids) c).replies ≡ map f ids)
    replies_of = map-of_replies ids (execute (commands_in m ids) c).replies
        (Once-from_AllPairs ids lawful.once)
        (length-replies (commands_in m ids) c ∙ length-map ids
        (λ x. ops_or_empty (instance_of m x)))

    alike : ExecutesAlike (λ x. ops_or_empty (instance_of m x)) replies_of.0 ids other c
    alike = execute-rearranged (λ x. ops_or_empty (instance_of m x)) replies_of.0 other ids
        rearranged c replies_of.1

    -- both leave the same contents
    pub final-lawful : (execute (commands_in m other) c).final
        ≡ (execute (commands_in m ids) c).final
    final-lawful = alike.final

    -- and each instance has the same reply in both
    pub reply-lawful : (i j : ℕ) (x : Id) → slice_get ids i ≡ Some x → slice_get other j ≡ Some x
        → slice_get (execute (commands_in m other) c).replies j
        ≡ slice_get (execute (commands_in m ids) c).replies i
    reply-lawful i j x p q =
        ap (λ rs. slice_get rs j) alike.replies
        ∙ slice_get-map replies_of.0 other j x q
        ∙ sym (slice_get-map replies_of.0 ids i x p)
        ∙ sym (ap (λ rs. slice_get rs i) replies_of.1)
