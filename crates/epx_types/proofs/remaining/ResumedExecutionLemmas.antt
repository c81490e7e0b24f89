-- Executing the remaining map after the done instances is executing the whole, for a covered map.
use Rattle.std.proofs.Common.{◌≡◌, ◌⊎◌, ◌↔◌, ◌∙◌, ◌+◌, ℕ, List, [], ◌++◌, length, Contains, Some}
use Rattle.std.proofs.Common.{slice_get, get_or, refl, sym, ap, subst, inl, inr, arith}
use Rattle.std.specs.FinMap as contents
use Rattle.std.proofs.lemmas.List.{length-map, map-append}
use Rattle.std.proofs.lemmas.Option.{slice_get_within, slice_get-get_or}
use Rattle.std.proofs.lemmas.List.Elements.{Contains-append_left, Contains-append_right}
use Rattle.std.proofs.lemmas.List.Elements.{Contains-append_cases}
use Rattle.epx_types.specs.declared.id.Id.{Id}
use Rattle.epx_types.specs.declared.reply.Reply.{Reply}
use Rattle.epx_types.specs.declared.reply.Reply.TheVariants.{Abort}
use Rattle.epx_types.specs.Ids.{IsRising}
use Rattle.epx_types.specs.Instances.{Instance}
use Rattle.epx_types.specs.Contents.{Contents}
use Rattle.epx_types.specs.CommittedMap.{ids_of, instance_of, ops_or_empty, commands_in}
use Rattle.epx_types.specs.Conflicts.{IsCovered}
use Rattle.epx_types.specs.Execution.{execute}
use Rattle.epx_types.specs.Reaching.{Reaches}
use Rattle.epx_types.specs.Readiness.{IsReady}
use Rattle.epx_types.specs.Done.{remaining, remaining_ids}
use Rattle.epx_types.specs.Sound.{IsSound, HasRemaining}
use Rattle.epx_types.specs.LawfulOrders.{IsLawfulFor, IsLawful}
use Rattle.epx_types.proofs.remaining.RemainingLemmas.{remaining-nil}
use Rattle.epx_types.proofs.commands.ExecutionLemmas.{length-replies, execute-append}
use Rattle.epx_types.proofs.lists.MembershipLemmas.{Contains-nil}
use Rattle.epx_types.proofs.lists.ListPositionLemmas.{Contains-slice_get, slice_get-from_Contains}
use Rattle.epx_types.proofs.graph.WaitingLemmas.{Contains-Id_cases}
use Rattle.epx_types.proofs.lists.BeforeLemmas.{slice_get-append, slice_get-append_left}
use Rattle.epx_types.proofs.orders.LawfulExecutionLemmas.{final-lawful, reply-lawful}
use Rattle.epx_types.proofs.orders.LawfulPartLemmas.{IsLawfulFor-same, IsLawfulFor-together}
use Rattle.epx_types.proofs.orders.LawfulPartLemmas.{IsLawful-part_and_rest}
use Rattle.epx_types.proofs.remaining.ResumedMapLemmas.{IsReady-in_whole, IsReady-closed}
use Rattle.epx_types.proofs.remaining.ResumedMapLemmas.{IsReady-left, IsLawfulAfter-left}
use Rattle.epx_types.proofs.remaining.ResumedMapLemmas.{commands_in-left}

-- the commands of two concatenated lists of Ids
execute-appended : (m : List Instance) (first rest : List Id) (c : Contents)
    → ((execute (commands_in m (first ++ rest)) c).replies
    ≡ (execute (commands_in m first) c).replies
    ++ (execute (commands_in m rest) (execute (commands_in m first) c).final).replies)
    × ((execute (commands_in m (first ++ rest)) c).final
    ≡ (execute (commands_in m rest) (execute (commands_in m first) c).final).final)
execute-appended m first rest c =
    let both : commands_in m (first ++ rest) ≡ commands_in m first ++ commands_in m rest =
    map-append (λ x. ops_or_empty (instance_of m x)) first rest in
    let parts = execute-append (commands_in m first) (commands_in m rest) c in (
      ap (λ os. (execute os c).replies) both ∙ parts.0,
      ap (λ os. (execute os c).final) both ∙ parts.1,
    )

-- there are as many replies as Ids
length-replied : (m : List Instance) (ids : List Id) (c : Contents)
    → length (execute (commands_in m ids) c).replies ≡ length ids
length-replied m ids c = length-replies (commands_in m ids) c
    ∙ length-map ids (λ x. ops_or_empty (instance_of m x))

-- if nothing is done, the empty contents are sound
pub IsSound-nothing_done : (m : List Instance) → IsSound m [] contents.empty
IsSound-nothing_done m = record {
  ready = λ x h. absurd (Contains-nil x h);
  closed = λ x y h there. absurd (Contains-nil x h);
  executed = (
    [],
    record {
      once = λ i j d l k. absurd (omega arith);
      only = λ x h. h;
      whole = λ x h. h;
      after_reached = λ x y h there back. absurd (Contains-nil x h);
      by_sequence = λ x y h k one lower. absurd (Contains-nil x h);
    },
    refl,
  );
}

module _ (m : List Instance) (rising : IsRising (ids_of m)) (done : List Id) (c : Contents)
    (sound : IsSound m done c) where
  -- if all ready instances are done, the contents are those that a lawful order leaves
  pub IsSound-final : IsCovered m → ((x : Id) → IsReady m x → Contains done x) → (whole : List Id)
      → IsLawful m whole → c ≡ (execute (commands_in m whole) contents.empty).final
  IsSound-final covered all whole lawful =
      let lawful_done = IsLawfulFor-same m (Contains done) (IsReady m) sound.executed.0 sound.ready
      all sound.executed.1 in
      sym sound.executed.2 ∙ final-lawful m rising covered whole sound.executed.0 lawful
      lawful_done contents.empty

  module _ (other : List Instance) (has : HasRemaining m done other) (ids : List Id)
      (lawful : IsLawful (remaining done other) ids) where
    -- an Id is done, or ready in the remaining map
    abbrev IsExecuted : Id → Type 0
    IsExecuted x = Contains done x ⊎ IsReady (remaining done other) x

    executed_ready : (x : Id) → IsExecuted x → IsReady m x
    executed_ready x (inl is_done) = sound.ready x is_done
    executed_ready x (inr x_ready) =
        IsReady-in_whole m other done rising sound.ready sound.closed has x x_ready

    executed_closed : (x y : Id) → IsExecuted x → Reaches m x y → IsExecuted y
    executed_closed = IsReady-closed m other done rising sound.ready sound.closed has

    executed_lawful : IsLawfulFor m IsExecuted (sound.executed.0 ++ ids)
    executed_lawful =
        IsLawfulFor-together m (Contains done) (IsReady (remaining done other)) sound.closed
        sound.executed.0 ids sound.executed.1
        (IsLawfulAfter-left m other done rising sound.ready sound.closed has ids lawful)

    -- the remaining map is executed over the contents that the done instances left
    from_left : (execute (commands_in m ids)
        (execute (commands_in m sound.executed.0) contents.empty).final)
        ≡ execute (commands_in (remaining done other) ids) c
    from_left =
        ap (execute (commands_in m ids)) sound.executed.2
        ∙ ap (λ os. execute os c)
        (sym (commands_in-left m other done rising sound.ready sound.closed has ids lawful))

    -- with the executed instances done too, the final contents are sound
    pub IsSound-resumed : (now : List Id)
        → ((x : Id) → Contains now x ↔ (Contains done x ⊎ Contains ids x))
        → IsSound m now (execute (commands_in (remaining done other) ids) c).final
    IsSound-resumed now is = record {
      ready = λ x h. executed_ready x (to_executed x h);
      closed = λ x y h there. from_executed y (executed_closed x y (to_executed x h) there);
      executed = (
        sound.executed.0 ++ ids,
        IsLawfulFor-same m IsExecuted (Contains now) (sound.executed.0 ++ ids) from_executed
            to_executed executed_lawful,
        (execute-appended m sound.executed.0 ids contents.empty).1 ∙ ap (λ e. e.final) from_left,
      );
    } where
      to_executed : (x : Id) → Contains now x → IsExecuted x
      to_executed x h = elim ((is x).0 h) [
        | inl was ↦ inl was
        | inr newly ↦ inr (lawful.only x newly)
      ]

      from_executed : (x : Id) → IsExecuted x → Contains now x
      from_executed x h =
          (is x).1 (elim h [ inl was ↦ inl was | inr x_ready ↦ inr (lawful.whole x x_ready) ])

    module _ (covered : IsCovered m) (whole : List Id) (lawful' : IsLawful m whole) where
      -- the done instances, the remaining ready ones, and then the others
      abbrev in_turn : List Id
      in_turn = (sound.executed.0 ++ ids) ++ remaining_ids (sound.executed.0 ++ ids) whole

      in_turn_lawful : IsLawful m in_turn
      in_turn_lawful = IsLawful-part_and_rest m IsExecuted executed_ready executed_closed
          (sound.executed.0 ++ ids) whole executed_lawful lawful'

      position_in_turn : (i : ℕ) (x : Id) → slice_get ids i ≡ Some x
          → slice_get in_turn (length sound.executed.0 + i) ≡ Some x
      position_in_turn i x at =
          slice_get-append_left (sound.executed.0 ++ ids)
          (remaining_ids (sound.executed.0 ++ ids) whole) (length sound.executed.0 + i) x
          (slice_get-append sound.executed.0 ids i ∙ at)

      -- the reply of a remaining instance is at that position
      reply_in_turn : (i : ℕ) (r : Reply)
          → slice_get (execute (commands_in (remaining done other) ids) c).replies i ≡ Some r
          → slice_get (execute (commands_in m in_turn) contents.empty).replies
          (length sound.executed.0 + i) ≡ Some r
      reply_in_turn i r at =
          let early = (execute (commands_in m sound.executed.0) contents.empty).replies in
          let late =
          (execute (commands_in m ids)
          (execute (commands_in m sound.executed.0) contents.empty).final).replies in
          let here : slice_get late i ≡ Some r = ap (λ e. slice_get e.replies i) from_left ∙ at in
          let both : slice_get (execute (commands_in m (sound.executed.0 ++ ids))
          contents.empty).replies (length sound.executed.0 + i) ≡ Some r =
          ap (λ rs. slice_get rs (length sound.executed.0 + i))
          (execute-appended m sound.executed.0 ids contents.empty).0
          ∙ ap (λ n. slice_get (early ++ late) (n + i))
          (sym (length-replied m sound.executed.0 contents.empty))
          ∙ slice_get-append early late i
          ∙ here in
          let rest =
          (execute (commands_in m (remaining_ids (sound.executed.0 ++ ids) whole))
          (execute (commands_in m (sound.executed.0 ++ ids)) contents.empty).final).replies in
          ap (λ rs. slice_get rs (length sound.executed.0 + i))
          (execute-appended m (sound.executed.0 ++ ids)
          (remaining_ids (sound.executed.0 ++ ids) whole) contents.empty).0
          ∙ slice_get-append_left
          (execute (commands_in m (sound.executed.0 ++ ids)) contents.empty).replies rest
          (length sound.executed.0 + i) r both

      -- each reply is that of its instance in an execution of the whole
      pub reply-resumed : (i : ℕ) (x : Id) → slice_get ids i ≡ Some x
          → (j : ℕ) × (slice_get whole j ≡ Some x)
          × (slice_get (execute (commands_in (remaining done other) ids) c).replies i
          ≡ slice_get (execute (commands_in m whole) contents.empty).replies j)
      reply-resumed i x at =
          let replies = (execute (commands_in (remaining done other) ids) c).replies in
          let within = slice_get_within ids i x at in
          let replied = slice_get-get_or replies i (Abort 0)
          (omega (arith, length-replied (remaining done other) ids c)) in
          let j = slice_get-from_Contains whole x
          (lawful'.whole x
          (executed_ready x (inr (lawful.only x (Contains-slice_get ids i x at))))) in
          let same = reply-lawful m rising covered whole in_turn lawful' in_turn_lawful
          contents.empty j.0 (length sound.executed.0 + i) x j.1 (position_in_turn i x at) in
          (j.0, j.1, replied ∙ sym (reply_in_turn i (get_or replies i (Abort 0)) replied) ∙ same)

-- if all of m that is not done remains, executing the remaining map leaves the contents that
-- executing the whole leaves
pub final-resumed : (m : List Instance) (rising : IsRising (ids_of m)) (done : List Id)
    (c : Contents) (sound : IsSound m done c) (other : List Instance)
    (has : HasRemaining m done other) (ids : List Id)
    (lawful : IsLawful (remaining done other) ids)
    → HasRemaining other done m → IsCovered m → (whole : List Id) → IsLawful m whole
    → (execute (commands_in (remaining done other) ids) c).final
    ≡ (execute (commands_in m whole) contents.empty).final
final-resumed m rising done c sound other has ids lawful all covered whole lawful' =
    IsSound-final m rising (done ++ ids) (execute (commands_in (remaining done other) ids) c).final
    again covered all_done whole lawful' where
      again : IsSound m (done ++ ids) (execute (commands_in (remaining done other) ids) c).final
      again =
          IsSound-resumed m rising done c sound other has ids lawful (done ++ ids)
          (λ x. (
            Contains-append_cases done ids x,
            λ h. elim h [
              | inl was ↦ Contains-append_left done ids x was
              | inr newly ↦ Contains-append_right done ids x newly
            ],
          ))

      all_done : (x : Id) → IsReady m x → Contains (done ++ ids) x
      all_done x x_ready =
          elim (Contains-Id_cases done x) [
            | inl was ↦ Contains-append_left done ids x was
            | inr not_yet ↦ Contains-append_right done ids x
                (lawful.whole x (IsReady-left m other done rising sound.ready sound.closed has all
                x
                x_ready not_yet))
          ]

-- ---- a part of a map, executed from the empty contents

module _ (m : List Instance) (rising : IsRising (ids_of m)) (part : List Instance)
    (within : (e : Instance) → Contains part e → Contains m e) (ids : List Id)
    (lawful : IsLawful part ids) where
  lawful_left : IsLawful (remaining [] part) ids
  lawful_left = subst (λ p. IsLawful p ids) (sym (remaining-nil part)) lawful

  -- its ready instances, with the contents that they leave, are sound for the whole
  pub IsSound-part : IsSound m ids (execute (commands_in part ids) contents.empty).final
  IsSound-part =
      subst (λ p. IsSound m ids (execute (commands_in p ids) contents.empty).final)
      (remaining-nil part) (IsSound-resumed m rising [] contents.empty (IsSound-nothing_done m)
      part (λ e h none. within e h) ids lawful_left ids
      (λ x. (inr, λ h. elim h [ inl none ↦ absurd (Contains-nil x none) | inr newly ↦ newly ])))
