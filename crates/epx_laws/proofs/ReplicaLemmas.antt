-- Prefixes of lawful orders in maps that grow, and in parts of one map.
use Rattle.std.proofs.Common.{◌≡◌, ◌≢◌, ◌↔◌, ◌∙◌, ℕ, ◌<◌, List, ◌++◌, length, Contains, AllPairs}
use Rattle.std.proofs.Common.{Some, slice_get, get_or, append_assoc, sym, ap, subst, inl, inr}
use Rattle.std.proofs.Common.{arith}
use Rattle.epx_types.proofs.Common.{length-map, Contains-append_left, slice_get_within}
use Rattle.epx_types.proofs.Common.{slice_get-get_or, IsRising, Instance, Contents, ids_of}
use Rattle.epx_types.proofs.Common.{instance_of, commands_in, ops_or_empty, Conflict, IsCovered}
use Rattle.epx_types.proofs.Common.{remaining_ids, execute, IsLawfulPrefix, Before, IsLawful}
use Rattle.epx_types.proofs.Common.{Reaches, IsReady, instance_of-iff_contains, length-replies}
use Rattle.epx_types.proofs.Common.{IsRearranged}
use Rattle.epx_types.proofs.Common.{execute-rearranged, Once-from_AllPairs, Precedes-from_Before}
use Rattle.epx_types.proofs.Common.{AllPairs-Precedes, IsReady-reached, Before-append_left}
use Rattle.epx_types.proofs.Common.{Before-from_Precedes, slice_get-append_left}
use Rattle.epx_types.proofs.Common.{slice_get-from_Contains, Contains-slice_get}
use Rattle.epx_types.proofs.Common.{AllPairs-from_slice_get, AllPairs-slice_get, Contains-from_map}
use Rattle.epx_types.proofs.Common.{Before-in_first, Before-in_second, Before-alike_reaching}
use Rattle.epx_types.proofs.Common.{Before-alike_reached, slice_get-is_unique}
use Rattle.epx_types.proofs.Common.{IsLawful-part_and_rest}
use Rattle.epx_types.proofs.Common.{map-of_replies}
use Rattle.epx_types.specs.declared.id.Id.{Id}
use Rattle.epx_types.specs.declared.op.Op.{Op}
use Rattle.epx_laws.specs.GrowthLaws.{IsWithin}
use Rattle.epx_laws.specs.ReplicaLaws.{HasExecuted}
use Rattle.epx_laws.proofs.PrefixLemmas.{IsLawful-exists, reply-prefix}
use Rattle.epx_laws.proofs.LargerMapLemmas.{IsReady-in_more, Reaches-in_less, IsLawfulFor-in_more}
use Rattle.epx_laws.proofs.LargerMapLemmas.{commands-in_more}

-- ---- prefixes in larger maps

module _ (m more : List Instance) (rising : IsRising (ids_of more)) (within : IsWithin m more) where
  pub IsLawfulPrefix-in_more : (ids : List Id) → IsLawfulPrefix m ids
      → IsLawfulPrefix more ids
  IsLawfulPrefix-in_more ids (rest, lawful) =
      let whole = IsLawful-exists more rising in
      let left = remaining_ids (ids ++ rest) whole.0 in
      let all = IsLawful-part_and_rest more (IsReady m) (IsReady-in_more m more rising within)
      (λ x y ready there. IsReady-reached m x y
      (Reaches-in_less m more rising within x y ready there) ready)
      (ids ++ rest) whole.0 (IsLawfulFor-in_more m more rising within (ids ++ rest) lawful)
      whole.1 in
      (rest ++ left, subst (IsLawful more) (append_assoc ids rest left) all)

  pub IsCovered-in_less : IsCovered more → IsCovered m
  IsCovered-in_less covered d e in_d in_e apart ready ready' conflict =
      elim (covered d e (within d in_d) (within e in_e) apart
      (IsReady-in_more m more rising within d.id ready)
      (IsReady-in_more m more rising within e.id ready') conflict) [
        | inl there ↦ inl (Reaches-in_less m more rising within d.id e.id ready there)
        | inr back ↦ inr (Reaches-in_less m more rising within e.id d.id ready' back)
      ]

  -- a prefix has the same commands in both
  commands-prefix : (ids : List Id) → IsLawfulPrefix m ids
      → commands_in m ids ≡ commands_in more ids
  commands-prefix ids (rest, lawful) = commands-in_more m more rising within ids
      (λ x h. (lawful.only x (Contains-append_left ids rest x h)).committed)

-- ---- the order of a prefix

-- in a list without repeats, what is before a member of the front is so in the front too
pub Before-in_front : (front rest : List Id) → AllPairs (λ x y. x ≢ y) (front ++ rest) → (x y : Id)
    → Before (front ++ rest) x y → Contains front y → Before front x y
Before-in_front front rest once x y (i, j, l, p, q) h =
    let at = slice_get-from_Contains front y h in
    let same = slice_get-is_unique (front ++ rest) once j at.0 y q
    (slice_get-append_left front rest at.0 y at.1) in
    let inside : i < length front = omega (arith, l, same, slice_get_within front at.0 y at.1) in
    let first = slice_get-get_or front i x inside in
    let here = slice_get-append_left front rest i (get_or front i x) first in
    let is : get_or front i x ≡ x = cc (here, p) in
    (i, at.0, omega (arith, l, same), first ∙ ap Some is, at.1)

AllPairs-front : (front rest : List Id) → AllPairs (λ x y. x ≢ y) (front ++ rest)
    → AllPairs (λ x y. x ≢ y) front
AllPairs-front front rest once = AllPairs-from_slice_get (λ x y. x ≢ y) front
    (λ i j x y l p q. AllPairs-slice_get (λ v w. v ≢ w) (front ++ rest) once i j x y l
    (slice_get-append_left front rest i x p) (slice_get-append_left front rest j y q))

-- ---- two prefixes with the same instances

module _ (m : List Instance) (rising : IsRising (ids_of m)) (covered : IsCovered m)
    (ids other : List Id) (begins : IsLawfulPrefix m ids) (begins' : IsLawfulPrefix m other)
    (same : (x : Id) → Contains ids x ↔ Contains other x) where
  ready_in : (x : Id) → Contains ids x → IsReady m x
  ready_in x h = begins.1.only x (Contains-append_left ids begins.0 x h)

  of_ready : (x : Id) → IsReady m x
      → (e : Instance) × Contains m e × (e.id ≡ x) × (ops_or_empty (instance_of m x) ≡ e.ops)
  of_ready x ready =
      let e = Contains-from_map (λ (e : Instance). e.id) m x ready.committed in
      (e.0, e.1, e.2, ap ops_or_empty ((instance_of-iff_contains m rising x e.0).1 (e.1, e.2)))

  -- instances that conflict come in the same order in both
  conflicts_alike : (x y : Id) → Before ids x y → x ≢ y
      → Conflict (ops_or_empty (instance_of m x)) (ops_or_empty (instance_of m y))
      → Before other x y
  conflicts_alike x y before apart conflict =
      let in_x = Before-in_first ids x y before in
      let in_y = Before-in_second ids x y before in
      let d = of_ready x (ready_in x in_x) in
      let e = of_ready y (ready_in y in_y) in
      let early = Before-append_left ids begins.0 x y before in
      let related = covered d.0 e.0 d.1 e.1 (λ same. apart (sym d.2 ∙ same ∙ e.2))
      (subst (IsReady m) (sym d.2) (ready_in x in_x))
      (subst (IsReady m) (sym e.2) (ready_in y in_y))
      (subst (λ (os : List Op). Conflict os e.0.ops) d.3
      (subst (Conflict (ops_or_empty (instance_of m x))) e.3 conflict)) in
      Before-in_front other begins'.0 begins'.1.once x y
      (elim related [
        | inl reaches ↦
            Before-alike_reaching m (ids ++ begins.0) (other ++ begins'.0) begins.1 begins'.1 x y
            early
            (subst (λ (z : Id). Reaches m z y) d.2 (subst (Reaches m d.0.id) e.2 reaches))
        | inr reached ↦
            Before-alike_reached m (ids ++ begins.0) (other ++ begins'.0) begins.1 begins'.1 x y
            early
            (subst (λ (z : Id). Reaches m z x) e.2 (subst (Reaches m e.0.id) d.2 reached))
      ])
      ((same y).0 in_y)

  once_in : AllPairs (λ x y. x ≢ y) ids
  once_in = AllPairs-front ids begins.0 begins.1.once

  rearranged : IsRearranged (λ x. ops_or_empty (instance_of m x)) ids other
  rearranged = record {
    once = Once-from_AllPairs ids once_in;
    once_too = Once-from_AllPairs other (AllPairs-front other begins'.0 begins'.1.once);
    only = λ x h. (same x).0 h;
    whole = λ x h. (same x).1 h;
    keeps = λ x y h conflict. Precedes-from_Before other x y
        (conflicts_alike x y (Before-from_Precedes ids x y h)
        (AllPairs-Precedes (λ v w. v ≢ w) ids once_in x y h) conflict);
  }

  -- they leave the same contents
  final-prefixes : (c : Contents) → (execute (commands_in m other) c).final
      ≡ (execute (commands_in m ids) c).final
  final-prefixes c =
      let replies = (execute (commands_in m ids) c).replies in
      let long : length replies ≡ length ids = length-replies (commands_in m ids) c
      ∙ length-map ids (λ x. ops_or_empty (instance_of m x)) in
      let reply_of = map-of_replies ids replies (Once-from_AllPairs ids once_in) long in
      (execute-rearranged (λ x. ops_or_empty (instance_of m x)) reply_of.0 other ids rearranged c
      reply_of.1).final

-- ---- replicas

module _ (m : List Instance) (rising : IsRising (ids_of m)) (covered : IsCovered m)
    (a b : List Instance) (ids other : List Id) (has : HasExecuted m a ids)
    (has' : HasExecuted m b other) where
  in_whole : IsLawfulPrefix m ids
  in_whole = IsLawfulPrefix-in_more a m rising has.within ids has.begins

  in_whole' : IsLawfulPrefix m other
  in_whole' = IsLawfulPrefix-in_more b m rising has'.within other has'.begins

  commands : commands_in a ids ≡ commands_in m ids
  commands = commands-prefix a m rising has.within ids has.begins

  commands' : commands_in b other ≡ commands_in m other
  commands' = commands-prefix b m rising has'.within other has'.begins

  pub final-replicas : ((x : Id) → Contains ids x ↔ Contains other x) → (c : Contents)
      → (execute (commands_in a ids) c).final ≡ (execute (commands_in b other) c).final
  final-replicas same c =
      ap (λ os. (execute os c).final) commands
      ∙ sym (final-prefixes m rising covered ids other in_whole in_whole' same c)
      ∙ sym (ap (λ os. (execute os c).final) commands')

  module _ (c : Contents) (i j : ℕ) (x : Id) (p : slice_get ids i ≡ Some x)
      (q : slice_get other j ≡ Some x) where
    pub reply-replicas : slice_get (execute (commands_in a ids) c).replies i
        ≡ slice_get (execute (commands_in b other) c).replies j
    reply-replicas =
        let whole = IsLawful-exists m rising in
        let ready = in_whole.1.only x
        (Contains-append_left ids in_whole.0 x (Contains-slice_get ids i x p)) in
        let at = slice_get-from_Contains whole.0 x (whole.1.whole x ready) in
        ap (λ os. slice_get (execute os c).replies i) commands
        ∙ reply-prefix m rising covered ids in_whole.0 whole.0 in_whole.1 whole.1 c i at.0 x p
        at.1
        ∙ sym (reply-prefix m rising covered other in_whole'.0 whole.0 in_whole'.1 whole.1 c j
        at.0 x q at.1)
        ∙ sym (ap (λ os. slice_get (execute os c).replies j) commands')
