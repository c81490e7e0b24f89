-- A list that is lawful for a part of a map, followed by a list that is lawful after that part.
use Rattle.std.proofs.Common.{◌≡◌, ◌≢◌, ◌⊎◌, true, false, not, List, ◌++◌, Contains, AllPairs, ap}
use Rattle.std.proofs.Common.{subst, inl, inr}
use Rattle.std.proofs.lemmas.List.Elements.{All-contains, filter_passes, Contains-append_left}
use Rattle.std.proofs.lemmas.List.Elements.{Contains-append_right, Contains-append_cases}
use Rattle.std.proofs.lemmas.List.Kept.{AllPairs-filter}
use Rattle.epx_types.specs.declared.id.Id.{Id}
use Rattle.epx_types.specs.Instances.{Instance}
use Rattle.epx_types.specs.Reaching.{Reaches}
use Rattle.epx_types.specs.Readiness.{IsReady}
use Rattle.epx_types.specs.Components.{InOneComponent}
use Rattle.epx_types.specs.Done.{is_among, remaining_ids}
use Rattle.epx_types.specs.LawfulOrders.{Before, SequenceBefore, IsLawfulFor, IsLawful}
use Rattle.epx_types.proofs.lists.MembershipLemmas.{Contains-filter, Contains-from_filter}
use Rattle.epx_types.proofs.lists.ListPositionLemmas.{AllPairs-append}
use Rattle.epx_types.proofs.remaining.RemainingLemmas.{is_among-cases}
use Rattle.epx_types.proofs.lists.BeforeLemmas.{Before-append_left, Before-append_right}
use Rattle.epx_types.proofs.lists.BeforeLemmas.{Before-across, Before-filter}

module _ (m : List Instance) where
  -- a list that is lawful for one set is lawful for another with the same members
  pub IsLawfulFor-same : (Member Other : Id → Type 0) (ids : List Id)
      → ((x : Id) → Member x → Other x) → ((x : Id) → Other x → Member x)
      → IsLawfulFor m Member ids → IsLawfulFor m Other ids
  IsLawfulFor-same Member Other ids there back lawful = record {
    once = lawful.once;
    only = λ x h. there x (lawful.only x h);
    whole = λ x h. lawful.whole x (back x h);
    after_reached = lawful.after_reached;
    by_sequence = lawful.by_sequence;
  }

  -- the set has all that its members reach
  abbrev pub IsClosed : (Id → Type 0) → Type 0
  IsClosed Member = (x y : Id) → Member x → Reaches m x y → Member y

  -- the list is lawful for a second set, after the members of the first
  pub record IsLawfulAfter (Member Other : Id → Type 0) (ids : List Id) : Type 0 where
    pub once : AllPairs (λ x y. x ≢ y) ids
    pub only : (x : Id) → Contains ids x → Other x
    pub whole : (x : Id) → Other x → Contains ids x
    pub apart : (x : Id) → Other x → ¬ Member x
    pub after_reached : (x y : Id) → Contains ids x → Reaches m x y → ¬ Reaches m y x
        → Member y ⊎ Before ids y x
    pub by_sequence : (x y : Id) → Contains ids x → Contains ids y → InOneComponent m x y
        → SequenceBefore m x y → Before ids x y

  module _ (Member Other : Id → Type 0) (closed : IsClosed Member) (front back : List Id)
      (lawful : IsLawfulFor m Member front) (after : IsLawfulAfter Member Other back) where
    together_after_reached : (x y : Id) → Contains (front ++ back) x → Reaches m x y
        → ¬ Reaches m y x → Before (front ++ back) y x
    together_after_reached x y h there not_back =
        elim (Contains-append_cases front back x h) [
          | inl early ↦ Before-append_left front back y x
              (lawful.after_reached x y early there not_back)
          | inr late ↦ elim (after.after_reached x y late there not_back) [
            | inl member ↦ Before-across front back y x (lawful.whole y member) late
            | inr before ↦ Before-append_right front back y x before
          ]
        ]

    together_by_sequence : (x y : Id) → Contains (front ++ back) x → Contains (front ++ back) y
        → InOneComponent m x y → SequenceBefore m x y → Before (front ++ back) x y
    together_by_sequence x y h k one lower =
        elim (Contains-append_cases front back x h) [
          | inl early ↦ Before-append_left front back x y
              (lawful.by_sequence x y early
              (lawful.whole y (closed x y (lawful.only x early) one.0)) one lower)
          | inr late ↦ elim (Contains-append_cases front back y k) [
            | inl early ↦ absurd
                (after.apart x (after.only x late) (closed y x (lawful.only y early) one.1))
            | inr later ↦ Before-append_right front back x y
                (after.by_sequence x y late later one lower)
          ]
        ]

    -- both lists together are lawful for the union of both sets
    pub IsLawfulFor-together : IsLawfulFor m (λ x. Member x ⊎ Other x) (front ++ back)
    IsLawfulFor-together = record {
      once = AllPairs-append (λ x y. x ≢ y) front back lawful.once after.once
          (λ x y h k same. after.apart y (after.only y k) (subst Member same (lawful.only x h)));
      only = λ x h. elim (Contains-append_cases front back x h)
          [ inl early ↦ inl (lawful.only x early) | inr late ↦ inr (after.only x late) ];
      whole = λ x h. elim h [
        | inl member ↦ Contains-append_left front back x (lawful.whole x member)
        | inr other ↦ Contains-append_right front back x (after.whole x other)
      ];
      after_reached = together_after_reached;
      by_sequence = together_by_sequence;
    }

module _ (part whole : List Id) where
  pub remaining_ids-apart : (x : Id) → Contains (remaining_ids part whole) x → ¬ Contains part x
  remaining_ids-apart x h k =
      let passes = All-contains (λ y. not (is_among part y) ≡ true) (remaining_ids part whole) x
      (filter_passes (λ y. not (is_among part y)) whole) h in
      elim (is_among-cases part x) [
        | inl found ↦ let e : not (is_among part x) ≡ false =
            ap not found.0 in absurd (cc (e, passes))
        | inr missed ↦ missed.1 k
      ]

  pub is_among-passes_rest : (x : Id) → ¬ Contains part x → not (is_among part x) ≡ true
  is_among-passes_rest x none = elim (is_among-cases part x)
      [ inl found ↦ absurd (none found.1) | inr missed ↦ ap not missed.0 ]

module _ (m : List Instance) (Member : Id → Type 0) (ready : (x : Id) → Member x → IsReady m x)
    (closed : IsClosed m Member) (part whole : List Id) (lawful : IsLawfulFor m Member part)
    (lawful' : IsLawful m whole) where
  -- the ready instances outside the part
  abbrev IsLeft : Id → Type 0
  IsLeft x = IsReady m x × (¬ Contains part x)

  in_whole : (x : Id) → Contains (remaining_ids part whole) x → Contains whole x
  in_whole x h = Contains-from_filter (λ y. not (is_among part y)) whole x h

  rest_after_reached : (x y : Id) → Contains (remaining_ids part whole) x → Reaches m x y
      → ¬ Reaches m y x → Member y ⊎ Before (remaining_ids part whole) y x
  rest_after_reached x y h there not_back =
      elim (is_among-cases part y) [
        | inl found ↦ inl (lawful.only y found.1)
        | inr missed ↦ inr
            (Before-filter (λ z. not (is_among part z)) whole y x
            (lawful'.after_reached x y (in_whole x h) there not_back)
            (is_among-passes_rest part whole y missed.1)
            (is_among-passes_rest part whole x (remaining_ids-apart part whole x h)))
      ]

  rest_by_sequence : (x y : Id) → Contains (remaining_ids part whole) x
      → Contains (remaining_ids part whole) y → InOneComponent m x y → SequenceBefore m x y
      → Before (remaining_ids part whole) x y
  rest_by_sequence x y h k one lower =
      Before-filter (λ z. not (is_among part z)) whole x y
      (lawful'.by_sequence x y (in_whole x h) (in_whole y k) one lower)
      (is_among-passes_rest part whole x (remaining_ids-apart part whole x h))
      (is_among-passes_rest part whole y (remaining_ids-apart part whole y k))

  rest_lawful : IsLawfulAfter m Member IsLeft (remaining_ids part whole)
  rest_lawful = record {
    once = AllPairs-filter (λ x y. x ≢ y) (λ x. not (is_among part x)) whole lawful'.once;
    only = λ x h. (lawful'.only x (in_whole x h), remaining_ids-apart part whole x h);
    whole = λ x h. Contains-filter (λ y. not (is_among part y)) whole x (lawful'.whole x h.0)
        (is_among-passes_rest part whole x h.1);
    apart = λ x h member. h.1 (lawful.whole x member);
    after_reached = rest_after_reached;
    by_sequence = rest_by_sequence;
  }

  -- a list that is lawful for a closed set of ready instances, followed by the others of a lawful
  -- order, is a lawful order
  pub IsLawful-part_and_rest : IsLawful m (part ++ remaining_ids part whole)
  IsLawful-part_and_rest =
      IsLawfulFor-same m (λ x. Member x ⊎ IsLeft x) (IsReady m) (part ++ remaining_ids part whole)
      (λ x h. elim h [ inl member ↦ ready x member | inr left ↦ left.0 ])
      (λ x h. elim (is_among-cases part x) [
        | inl found ↦ inl (lawful.only x found.1)
        | inr missed ↦ inr (h, missed.1)
      ])
      (IsLawfulFor-together m Member IsLeft closed part (remaining_ids part whole) lawful
      rest_lawful)
