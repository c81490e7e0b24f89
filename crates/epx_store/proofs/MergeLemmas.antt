-- The writes of several effects, one after another.
use Rattle.std.proofs.Common.{◌≡◌, ℕ, ◌+◌, ◌<◌, ◌∙◌, sym, ap, subst, append-nil, List, [], ◌∷◌}
use Rattle.std.proofs.Common.{length, get_or, drop, flat_map}
use Rattle.epx_types.proofs.Common.{Contents, writes_of, apply_writes, HasDistinctKeys}
use Rattle.epx_types.proofs.Common.{apply_writes-append, writes_of-distinct}
use Rattle.epx_types.specs.declared.op.Op.{Op}
use Rattle.epx_types.specs.Writes.{Write}
use Rattle.epx_store.proofs.DropLemmas.{drop-at_index}
use Rattle.epx_store.specs.declared.effect.Effect.{Effect}

-- the writes of all effects, one after another
abbrev pub writes_in : List Effect → List Write
writes_in effects = flat_map (λ e. e.writes) effects

-- one more effect is put in
pub apply_writes-effect : (effects : List Effect) (i : ℕ) (e : Effect) (before after all : Contents)
    → i < length effects → e ≡ get_or effects i e → after ≡ apply_writes e.writes before
    → apply_writes (writes_in (drop i effects)) before ≡ all
    → apply_writes (writes_in (drop (i + 1) effects)) after ≡ all
apply_writes-effect effects i e before after all within here put so_far =
    ap (apply_writes (writes_in (drop (i + 1) effects))) put
    ∙ sym (apply_writes-append e.writes (writes_in (drop (i + 1) effects)) before)
    ∙ ap (λ es. apply_writes (writes_in es) before) (sym (drop-at_index effects i e within here))
    ∙ so_far

-- the effect of one command writes no key twice
pub HasDistinctKeys-one_effect : (ops : List Op) (before : Contents) (effects : List Effect)
    (e : Effect)
    → effects ≡ e ∷ [] → e.writes ≡ writes_of ops before → HasDistinctKeys (writes_in effects)
HasDistinctKeys-one_effect ops before effects e alone writes =
    let P : List Write → Type 0 = λ ws. HasDistinctKeys ws in
    subst P (sym (ap writes_in alone ∙ append-nil e.writes ∙ writes))
    (writes_of-distinct ops before)
