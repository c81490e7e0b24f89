-- The lines of a call, where only a part of the pending instances is looked at.
use Rattle.std.proofs.Common.{◌≡◌, ◌≢◌, ◌≤◌, ◌+◌, ◌↔◌, ◌⊎◌, List, [], ◌++◌, length, Contains, refl}
use Rattle.std.proofs.Common.{sym, ◌∙◌, subst, inl, inr, arith}
use Rattle.epx_types.proofs.Common.{length-map, length-append, Contains-append_cases}
use Rattle.epx_types.proofs.Common.{Contains-append_left, Contains-append_right, IsRising, Instance}
use Rattle.epx_types.proofs.Common.{max_instances, Placed, Agree, Differ, IsFirstDisagreement}
use Rattle.epx_types.proofs.Common.{ids_of, IsRising-same, IsFirstDisagreement-not_Agree}
use Rattle.epx_types.proofs.Common.{Contains-nil, Contains-map, AllPairs-rising_distinct}
use Rattle.epx_types.proofs.Common.{length-at_most}
use Rattle.epx_types.specs.declared.id.Id.{Id}
use Rattle.epx_types.specs.declared.fault.Fault.{Fault}
use Rattle.epx_types.specs.declared.fault.Fault.TheVariants.{TooManyLogs, LogTooLong, BadLine}
use Rattle.epx_types.specs.declared.fault.Fault.TheVariants.{TooManyInstances, Disagree, Read}
use Rattle.epx_types.specs.declared.fault.Fault.TheVariants.{BadBase, Memory, Write}
use Rattle.epx_committed.specs.InstanceCounts.{AreNamedBy, FewInstances, ManyInstances}
use Rattle.epx_committed.specs.MergedLines.{IsMerged, IsMergeFault}
use Rattle.epx_committed.proofs.InstanceCountLemmas.{FewInstances-or_many}
use Rattle.epx_committed.proofs.MergedLinesLemmas.{IsMerged-or_fault}
use Rattle.epx_executor.specs.CallLines.{call_lines, lines_from, lines_not_done}
use Rattle.epx_executor.proofs.CallLineLemmas.{IsSortedByPlace-call, Contains-from_call}
use Rattle.epx_executor.proofs.CallLineLemmas.{Contains-merged}

-- rising Ids are distinct
module _ (done : List Id) (pending part came : List Instance) (rising : IsRising (ids_of pending))
    (within : (e : Instance) → Contains part e → Contains pending e)
    (few : length pending + length came ≤ max_instances)
    (alike : (p e : Instance) → Contains pending p → Contains came e → ¬ Contains done e.id
    → p.id ≡ e.id → p ≡ e) where
  abbrev all_lines : List Placed
  all_lines = call_lines done pending came

  abbrev part_lines : List Placed
  part_lines = call_lines done part came

  -- the lines of those that came and are not done
  abbrev new_lines : List Placed
  new_lines = lines_not_done done (lines_from 1 1 came)

  itself : (e : Instance) → Contains pending e → Contains pending e
  itself e h = h

  new_in : (some : List Instance) (p : Placed) → Contains new_lines p
      → Contains (call_lines done some came) p
  new_in some p h = Contains-append_right (lines_from 0 1 some) new_lines p h

  new_came : (p : Placed) → Contains new_lines p
      → Contains came p.instance × (¬ Contains done p.instance.id)
  new_came p h = elim (Contains-from_call done [] came p h)
      [ inl none ↦ absurd (Contains-nil p.instance none) | inr new ↦ new ]

  -- ---- the lines of some pending instances

  module _ (some : List Instance)
      (among : (e : Instance) → Contains some e → Contains pending e) where
    abbrev lines : List Placed
    lines = call_lines done some came

    -- their distinct Ids are those of pending instances and of those that came
    few_named : (ids : List Id) → AreNamedBy lines ids → length ids ≤ max_instances
    few_named ids named = omega (
      arith,
      few,
      length-at_most ids (ids_of pending ++ ids_of came) (AllPairs-rising_distinct ids named.rising)
          known,
      length-append (ids_of pending) (ids_of came),
      length-map pending (λ (e : Instance). e.id),
      length-map came (λ (e : Instance). e.id),
    ) where
      known : (x : Id) → Contains ids x → Contains (ids_of pending ++ ids_of came) x
      known x h =
          let p = named.named x h in
          let e = p.0.instance in
          subst (Contains (ids_of pending ++ ids_of came)) p.2
          (elim (Contains-from_call done some came p.0 p.1) [
            | inl old ↦ Contains-append_left (ids_of pending) (ids_of came) e.id
                (Contains-map (λ (i : Instance). i.id) pending e (among e old))
            | inr new ↦ Contains-append_right (ids_of pending) (ids_of came) e.id
                (Contains-map (λ (i : Instance). i.id) came e new.0)
          ])

    not_many : ¬ ManyInstances lines
    not_many many = omega (arith, many.2, few_named many.0 many.1)

    old_or_new : (p : Placed) → Contains lines p → Contains some p.instance ⊎ Contains new_lines p
    old_or_new p h =
        elim (Contains-append_cases (lines_from 0 1 some) new_lines p h) [
          | inr new ↦ inr new
          | inl old ↦ elim (Contains-from_call done some [] p
              (Contains-append_left (lines_from 0 1 some) [] p old)) [
                | inl there ↦ inl there
                | inr none ↦ absurd (Contains-nil p.instance none.0)
              ]
        ]

    -- a pending instance agrees with all lines
    old_agrees : (e : Instance) → Contains pending e → (p : Placed) → Contains lines p
        → e.id ≡ p.instance.id → e ≡ p.instance
    old_agrees e h p k same =
        elim (old_or_new p k) [
          | inl old ↦ IsRising-same pending rising e p.instance h (among p.instance old) same
          | inr new ↦ let there = new_came p new in
              alike e p.instance h there.0 there.1 same
        ]

    -- so a line that differs from another is of an instance that came
    differing_came : (p q : Placed) → Contains lines p → Contains lines q → Differ p q
        → Contains new_lines p
    differing_came p q h k differ =
        elim (old_or_new p h) [
          | inr new ↦ new
          | inl old ↦ absurd (differ.1
              (old_agrees p.instance (among p.instance old) q k differ.0))
        ]

    differing_both : (p q : Placed) → Contains lines p → Contains lines q → Differ p q
        → Contains new_lines p × Contains new_lines q
    differing_both p q h k differ = (
      differing_came p q h k differ,
      differing_came q p k h (sym differ.0, (λ same. differ.1 (sym same))),
    )

  -- ---- the map of all lines

  module _ (s : List Instance) (merged : IsMerged part_lines s) where
    all_agree : Agree all_lines
    all_agree p q h k same =
        elim (old_or_new pending itself p h) [
          | inl old ↦ old_agrees pending itself p.instance old q k same
          | inr new ↦ elim (old_or_new pending itself q k) [
            | inl old ↦
                sym (old_agrees pending itself q.instance old p h (sym same))
            | inr also ↦ merged.agree p q (new_in part p new) (new_in part q also) same
          ]
        ]

    no_fault : (f : Fault) → f ≢ Memory → ¬ IsMergeFault all_lines f
    no_fault Memory other h = other refl
    no_fault TooManyInstances other h = not_many pending itself h
    no_fault (Disagree id first second) other h =
        IsFirstDisagreement-not_Agree all_lines id h.1.0 h.1.1 h.1.2 all_agree
    no_fault TooManyLogs other h = h
    no_fault (LogTooLong log) other h = h
    no_fault (BadLine place why) other h = h
    no_fault (Read log) other h = h
    no_fault Write other h = h
    no_fault (BadBase line) other h = h

    all_instances : (m : List Instance) → IsMerged all_lines m → (e : Instance)
        → Contains m e ↔ (Contains pending e ⊎ Contains s e)
    all_instances m whole e =
        let of_all = Contains-merged done pending came m whole e in
        let of_part = Contains-merged done part came s merged e in (
          λ h. elim (of_all.0 h)
              [ inl old ↦ inl old | inr new ↦ inr (of_part.1 (inr new)) ],
          λ h. elim h [
            | inl old ↦ of_all.1 (inl old)
            | inr there ↦ elim (of_part.0 there)
                [ inl old ↦ of_all.1 (inl (within e old)) | inr new ↦ of_all.1 (inr new) ]
          ],
        )

    -- all lines commit the pending instances, and what the lines with the part commit
    pub IsMerged-with_all : (m : List Instance) × IsMerged all_lines m
        × ((e : Instance) → Contains m e ↔ (Contains pending e ⊎ Contains s e))
    IsMerged-with_all =
        elim (IsMerged-or_fault all_lines (IsSortedByPlace-call done pending came)) [
          | inl m ↦ (m.0, m.1, all_instances m.0 m.1)
          | inr f ↦ absurd (no_fault f.0 f.1 f.2)
        ]

  -- ---- the fault of all lines

  all_few : FewInstances all_lines
  all_few = elim (FewInstances-or_many all_lines)
      [ inl small ↦ small | inr many ↦ absurd (not_many pending itself many) ]

  module _ (id : Id) (first second : Placed)
      (found : IsFirstDisagreement part_lines id first second) where
    new_two : Contains new_lines first × Contains new_lines second
    new_two = differing_both part within first second found.has_first found.has_second
        found.differ

    -- no pending instance has the Id, so its lines are of instances that came
    named_came : (p : Placed) → Contains all_lines p → p.instance.id ≡ id → Contains new_lines p
    named_came p h named =
        elim (old_or_new pending itself p h) [
          | inr new ↦ new
          | inl old ↦
              let same = named ∙ sym found.named in
              absurd (found.differ.1
              (sym (old_agrees part within p.instance old first found.has_first same)
              ∙ old_agrees part within p.instance old second found.has_second
              (same ∙ found.differ.0)))
        ]

    first_of_all : IsFirstDisagreement all_lines id first second
    first_of_all = record {
      has_first = new_in pending first new_two.0;
      has_second = new_in pending second new_two.1;
      named = found.named;
      differ = found.differ;
      least = λ p q h k differ.
          let both = differing_both pending itself p q h k differ in
          found.least p q (new_in part p both.0) (new_in part q both.1) differ;
      opens = λ p h named. found.opens p (new_in part p (named_came p h named)) named;
      follows = λ q h differ.
          let both = differing_both pending itself first q
          (new_in pending first new_two.0) h differ in
          found.follows q (new_in part q both.1) differ;
    }

  -- a fault of the lines with the part is one of all lines
  pub IsMergeFault-with_all : (f : Fault) → IsMergeFault part_lines f → IsMergeFault all_lines f
  IsMergeFault-with_all Memory h = tt
  IsMergeFault-with_all TooManyInstances h = absurd (not_many part within h)
  IsMergeFault-with_all (Disagree id first second) h =
      let d = h.1 in
      (all_few, (d.0, d.1, first_of_all id d.0 d.1 d.2, d.3, d.4))
  IsMergeFault-with_all TooManyLogs h = h
  IsMergeFault-with_all (LogTooLong log) h = h
  IsMergeFault-with_all (BadLine place why) h = h
  IsMergeFault-with_all (Read log) h = h
  IsMergeFault-with_all Write h = h
  IsMergeFault-with_all (BadBase line) h = h
