use Rattle.std.proofs.Common.{◌≡◌, ℕ, ◌+◌, ◌<◌, ◌^◌, List, take, get_or, slice_get, Some, None}
use Rattle.std.proofs.Common.{Contains, Option, MatchOption, true, false, is_some, sym, ap, subst}
use Rattle.epx_types.proofs.Common.{slice_get-get_or, Contains-slice_get}
use Rattle.epx_types.specs.declared.id.Id.{Id}
use Rattle.epx_versions.specs.SameInstances.{same_id}
use Rattle.epx_compare.specs.inner.MissingCounts.{AreCounts, with_one, is_missing}
use Rattle.epx_compare.proofs.MissingCountLemmas.{AreCounts-agree, with_one-committed}
use Rattle.epx_compare.proofs.MissingCountLemmas.{with_one-missing}
use Rattle.epx_compare.proofs.MissingCountLemmas.{with_one-not_counted}
use Rattle.epx_compare.proofs.missing.count_missing.Goals as goal
use Rattle.epx_compare.proofs.missing.count_missing.Goals.{then-is_none+in_ok-count_one}
use Rattle.epx_compare.proofs.missing.count_missing.Goals.{else-is_none}

-- what a position says
module _ (ids : List Id) (d : Id) where
  no_position : (o : Option ℕ)
      → MatchOption o (¬ Contains ids d) (λ k. slice_get ids k ≡ Some d) → is_some o ≡ false
      → ¬ Contains ids d
  no_position None h e = h
  no_position (Some k) h e = absurd (cc e)

  some_position : (o : Option ℕ)
      → MatchOption o (¬ Contains ids d) (λ k. slice_get ids k ≡ Some d) → is_some o ≡ true
      → Contains ids d
  some_position None h e = absurd (cc e)
  some_position (Some k) h e = Contains-slice_get ids k d h

pub count_one-requires : goal.count_one-requires
count_one-requires c =
    let ids : List Id = c.args.ids.now in
    let deps : List Id = c.args.deps.now in
    let i = c.loop-dep.dep-index in
    let zero : Id = record { replica = 0; number = 0 } in
    let d = get_or deps i zero in
    let here : slice_get deps i ≡ Some d = slice_get-get_or deps i zero c.loop-dep-test.true in
    let counted = c.requires.room.0 in
    let same = with_one-not_counted ids deps i d here c.requires.rising counted in (
      with_one (is_missing ids (take i deps)) counted,
      c.loop-dep.invariant counted c.requires.room.1,
      subst (λ n. n + 1 < 2 ^ 64) (sym same) (c.requires.room.2 d),
    )

pub loop-dep-preserved : goal.loop-dep-preserved
loop-dep-preserved c counted counts =
    let ids : List Id = c.args.ids.now in
    let deps : List Id = c.args.deps.now in
    let i = c.loop-dep.dep-index in
    let zero : Id = record { replica = 0; number = 0 } in
    let d = get_or deps i zero in
    let here : slice_get deps i ≡ Some d = slice_get-get_or deps i zero c.loop-dep-test.true in
    let now = c.loop-dep.invariant counted counts in
    let before : Id → ℕ = with_one (is_missing ids (take i deps)) counted in
    let after : Id → ℕ = with_one (is_missing ids (take (i + 1) deps)) counted in
    elim c.if-is_none.branch [
      | then-is_none+in_ok-count_one w ↦
          let missing = no_position ids d c.position.result c.position.ensures
          w.if-is_none.ensures in
          let added = w.in_ok-count_one.ensures before now in
          subst (λ (m : List (Id × ℕ)). AreCounts after m)
          (ap (λ m. m.entries) (sym w.counts-is))
          (AreCounts-agree (with_one (same_id d) before) after w.count_one.new.counts.entries
          (with_one-missing ids deps i d here c.requires.rising missing counted) added)
      | else-is_none w ↦
          let among = some_position ids d c.position.result c.position.ensures
          w.if-is_none.ensures in
          subst (λ (m : List (Id × ℕ)). AreCounts after m)
          (ap (λ m. m.entries) (sym w.counts-is))
          (AreCounts-agree before after c.loop-dep.counts.entries
          (with_one-committed ids deps i d here among counted) now)
    ]
