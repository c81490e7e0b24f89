-- Commands executed level by level, up to a level.
use Rattle.std.proofs.Common.{◌≡◌, ◌<◌, ◌∙◌, ℕ, suc, List, [], ◌++◌, length, slice_index_or, map}
use Rattle.std.proofs.Common.{Contains, All, refl, sym, ap, ap₂, subst, arith, ext_get_or}
use Rattle.epx_types.proofs.Common.{map-append, length-map, All-weaker, All-contains_itself}
use Rattle.epx_types.proofs.Common.{Contents, Execution, execute, AreLevels, level_count}
use Rattle.epx_types.proofs.Common.{level_positions, commands_at, IsRearrangement, length-replies}
use Rattle.epx_types.proofs.Common.{execute-append, by_level, Contains-from_level_positions}
use Rattle.epx_types.proofs.Common.{Contains-from_by_level, level_positions-rising}
use Rattle.epx_types.proofs.Common.{by_level-rearranges, Once, Once-from_AllPairs, final-rearranged}
use Rattle.epx_types.proofs.Common.{replies-rearranged, agree-from_map}
use Rattle.epx_types.specs.declared.op.Op.{Op}
use Rattle.epx_types.specs.declared.reply.Reply.{Reply}
use Rattle.epx_types.specs.declared.reply.Reply.TheVariants.{Abort}
use Rattle.epx_apply.specs.inner.Effects.{put_replies}
use Rattle.epx_apply.proofs.ReplyLemmas.{length-put_replies, map-put_replies, map-put_replies_other}

-- the execution of the commands of the levels below `level`, one level after another
abbrev pub run_below : List (List Op) → List ℕ → Contents → ℕ → Execution
run_below commands levels opening level =
    execute (commands_at commands (by_level levels level)) opening

-- the levels below `level` are done over `opening`: they left `work`, and their replies are at
-- their positions
pub record IsRunUpTo (commands : List (List Op)) (levels : List ℕ) (opening : Contents) (level : ℕ)
    (work : Contents) (at : List Reply) : Type 0 where
  pub whole : length at ≡ length commands
  pub stored : work ≡ (run_below commands levels opening level).final
  pub replied : (d : Reply) → map (λ i. slice_index_or at i d) (by_level levels level)
      ≡ (run_below commands levels opening level).replies

module _ (commands : List (List Op)) (levels : List ℕ) (opening : Contents) where
  -- one more level is done
  module _ (level : ℕ) (members : List ℕ) (are : AreLevels commands levels)
      (named : members ≡ level_positions levels level) (work : Contents) (at : List Reply)
      (done : IsRunUpTo commands levels opening level work at) where
    pub members-within : All (λ i. i < length commands) members
    members-within =
        subst (λ (is : List ℕ). All (λ i. i < length commands) is) (sym named)
        (All-weaker (Contains (level_positions levels level)) (λ i. i < length commands)
        (λ i h. omega (arith, are.whole, (Contains-from_level_positions levels level i h).0))
        (level_positions levels level) (All-contains_itself (level_positions levels level)))

    members-once : Once members
    members-once =
        subst (λ (is : List ℕ). Once is) (sym named)
        (Once-from_AllPairs (level_positions levels level)
        (λ i j d l k same. let rises = level_positions-rising levels level i j d l k in
        omega (arith, same, rises)))

    -- the execution of the levels so far and of this one
    on : ((run_below commands levels opening (suc level)).replies
        ≡ (run_below commands levels opening level).replies
        ++ (execute (commands_at commands members) work).replies)
        × ((run_below commands levels opening (suc level)).final
        ≡ (execute (commands_at commands members) work).final)
    on =
        let both : commands_at commands (by_level levels (suc level))
        ≡ commands_at commands (by_level levels level) ++ commands_at commands members =
        map-append (λ i. slice_index_or commands i []) (by_level levels level)
        (level_positions levels level)
        ∙ ap (λ is. commands_at commands (by_level levels level) ++ commands_at commands is)
        (sym named) in
        let parts = execute-append (commands_at commands (by_level levels level))
        (commands_at commands members) opening in (
          ap (λ os. (execute os opening).replies) both ∙ parts.0
              ∙ ap (λ c. (run_below commands levels opening level).replies
              ++ (execute (commands_at commands members) c).replies) (sym done.stored),
          ap (λ os. (execute os opening).final) both ∙ parts.1
              ∙ ap (λ c. (execute (commands_at commands members) c).final) (sym done.stored),
        )

    replies-on : (after : List Reply)
        → after ≡ put_replies members (execute (commands_at commands members) work).replies at
        → (d : Reply) → map (λ i. slice_index_or after i d) (by_level levels (suc level))
        ≡ (run_below commands levels opening (suc level)).replies
    replies-on after put d =
        let replies = (execute (commands_at commands members) work).replies in
        let earlier : map (λ i. slice_index_or after i d) (by_level levels level)
        ≡ (run_below commands levels opening level).replies =
        ap (λ rs. map (λ i. slice_index_or rs i d) (by_level levels level)) put
        ∙ map-put_replies_other (by_level levels level) members replies at d (λ k h within.
        let low = Contains-from_by_level levels level k h in
        let here = Contains-from_level_positions levels level k
        (subst (λ (is : List ℕ). Contains is k) named within) in
        omega (arith, low.1, here.1))
        ∙ done.replied d in
        let now : map (λ i. slice_index_or after i d) members ≡ replies =
        ap (λ rs. map (λ i. slice_index_or rs i d) members) put
        ∙ map-put_replies members replies at d members-once
        (All-weaker (λ i. i < length commands) (λ i. i < length at)
        (λ i l. omega (arith, l, done.whole)) members members-within)
        (length-replies (commands_at commands members) work
        ∙ length-map members (λ i. slice_index_or commands i [])) in
        map-append (λ i. slice_index_or after i d) (by_level levels level)
        (level_positions levels level)
        ∙ ap₂ (λ rs qs. rs ++ qs) earlier
        (ap (map (λ i. slice_index_or after i d)) (sym named) ∙ now)
        ∙ sym on.0

    pub IsRunUpTo-step : (next : ℕ) → next ≡ suc level → (after : List Reply)
        → after ≡ put_replies members (execute (commands_at commands members) work).replies at
        → (left : Contents) → left ≡ (execute (commands_at commands members) work).final
        → IsRunUpTo commands levels opening next left after
    IsRunUpTo-step next follows after put left stored =
        subst (λ (n : ℕ). IsRunUpTo commands levels opening n left after) (sym follows) (record {
          whole = ap length put ∙ length-put_replies members
              (execute (commands_at commands members) work).replies at ∙ done.whole;
          stored = stored ∙ sym on.1;
          replied = replies-on after put;
        })

  -- all levels are done
  module _ (are : AreLevels commands levels) (level : ℕ) (all : level ≡ level_count levels)
      (work : Contents) (at : List Reply)
      (done : IsRunUpTo commands levels opening level work at) where
    arranged : IsRearrangement commands (by_level levels level)
    arranged = subst (λ (n : ℕ). IsRearrangement commands (by_level levels n)) (sym all)
        (by_level-rearranges commands levels are)

    pub final-at_end : work ≡ (execute commands opening).final
    final-at_end = done.stored ∙ final-rearranged commands (by_level levels level) arranged opening

    pub replies-at_end : at ≡ (execute commands opening).replies
    replies-at_end =
        let d = Abort 0 in
        let replies = (execute commands opening).replies in
        let same : map (λ i. slice_index_or at i d) (by_level levels level)
        ≡ map (λ i. slice_index_or replies i d) (by_level levels level) =
        done.replied d ∙ replies-rearranged commands (by_level levels level) arranged opening d in
        ext_get_or d at replies (done.whole ∙ sym (length-replies commands opening)) (λ i l.
        agree-from_map (λ k. slice_index_or at k d) (λ k. slice_index_or replies k d)
        (by_level levels level) same i (arranged.whole i (omega (arith, l, done.whole))))
