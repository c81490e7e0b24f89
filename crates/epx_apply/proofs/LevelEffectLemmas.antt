-- The effects of the commands of one level, each over the contents before the level.
use Rattle.std.proofs.Common.{◌≡◌, ◌∙◌, ℕ, List, [], slice_index_or, map, subst, sym, ap}
use Rattle.epx_types.proofs.Common.{map-map, NoneConflict, Contents, execute, commands_at}
use Rattle.epx_types.proofs.Common.{apply_writes, HasDistinctKeys, writes_over}
use Rattle.epx_types.proofs.Common.{replies-none_conflict, final-none_conflict}
use Rattle.epx_types.proofs.Common.{distinct_keys-none_conflict}
use Rattle.epx_types.specs.declared.op.Op.{Op}
use Rattle.std.proofs.lemmas.List.Folds.{flat_map-map}
use Rattle.epx_types.specs.Writes.{Write}
use Rattle.epx_store.specs.declared.effect.Effect.{Effect}
use Rattle.epx_store.proofs.MergeLemmas.{writes_in}
use Rattle.epx_apply.specs.inner.Effects.{effect_over, effects_over, replies_in}

-- the effect of the command at a position
abbrev pub effect_at : Contents → List (List Op) → ℕ → Effect
effect_at c commands i = effect_over c (slice_index_or commands i [])

pub effects_over-each : (c : Contents) (commands : List (List Op)) (positions : List ℕ)
    → effects_over c (commands_at commands positions) ≡ map (effect_at c commands) positions
effects_over-each c commands positions =
    map-map (effect_over c) (λ i. slice_index_or commands i []) positions

-- commands of which no two conflict
module _ (commands : List (List Op)) (c : Contents) (effects : List Effect)
    (are : effects ≡ effects_over c commands) (apart : NoneConflict commands) where
  their_writes : writes_in effects ≡ writes_over commands c
  their_writes = ap writes_in are ∙ flat_map-map (λ e. e.writes) (effect_over c) commands

  -- no two of them write the same key
  pub HasDistinctKeys-effects : HasDistinctKeys (writes_in effects)
  HasDistinctKeys-effects = subst (λ (ws : List Write). HasDistinctKeys ws) (sym their_writes)
      (distinct_keys-none_conflict commands apart c)

  -- merging their writes yields the contents after them
  pub final-merged : (after : Contents) → after ≡ apply_writes (writes_in effects) c
      → after ≡ (execute commands c).final
  final-merged after put = put ∙ ap (λ ws. apply_writes ws c) their_writes
      ∙ sym (final-none_conflict commands apart c)

  -- their replies are those of executing them one after another
  pub replies_in-execute : replies_in effects ≡ (execute commands c).replies
  replies_in-execute = ap replies_in are ∙ map-map (λ e. e.reply) (effect_over c) commands
      ∙ sym (replies-none_conflict commands apart c)
