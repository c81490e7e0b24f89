-- Replies that are put at the positions of their commands.
use Rattle.std.proofs.Common.{◌≡◌, ◌<◌, ◌∙◌, ℕ, List, [], ◌∷◌, length, map, get_or, set, Contains}
use Rattle.std.proofs.Common.{All, refl, sym, ap, ap₂, subst, arith}
use Rattle.epx_types.proofs.Common.{length-set, get_or-set_same, get_or-set_other, All-head}
use Rattle.epx_types.proofs.Common.{All-tail, All-weaker, Contains-head, Contains-cons, map-agree}
use Rattle.epx_types.proofs.Common.{Once}
use Rattle.epx_types.specs.declared.reply.Reply.{Reply}
use Rattle.epx_store.specs.declared.effect.Effect.{Effect}
use Rattle.epx_apply.specs.inner.Effects.{replies_in, put_replies}

-- once the remaining effects are put at the remaining positions, all are put
pub record ArePutUpTo (positions : List ℕ) (effects : List Effect) (at all : List Reply) : Type
    0 where
  pub len : length effects ≡ length positions
  pub within : All (λ i. i < length at) positions
  pub remaining_put : put_replies positions (replies_in effects) at ≡ all

-- one more reply is put
module _ (positions positions' : List ℕ) (effects effects' : List Effect) (i : ℕ) (e : Effect)
    (at all : List Reply) (next_position : positions ≡ i ∷ positions')
    (next_effect : effects ≡ e ∷ effects')
    (remaining_put : ArePutUpTo positions effects at all) where
  here : ArePutUpTo (i ∷ positions') (e ∷ effects') at all
  here = subst (λ (is : List ℕ). ArePutUpTo is (e ∷ effects') at all) next_position
      (subst (λ (es : List Effect). ArePutUpTo positions es at all) next_effect remaining_put)

  pub its_position-within : i < length at
  its_position-within = All-head (λ k. k < length at) i positions' here.within

  pub ArePutUpTo-step : (after : List Reply) → after ≡ set at i e.reply
      → ArePutUpTo positions' effects' after all
  ArePutUpTo-step after put = record {
    len = omega (arith, here.len);
    within = All-weaker (λ k. k < length at) (λ k. k < length after)
        (λ k l. omega (arith, l, ap length put, length-set at i e.reply)) positions'
        (All-tail (λ k. k < length at) i positions' here.within);
    remaining_put = ap (put_replies positions' (replies_in effects')) put ∙ here.remaining_put;
  }

-- ---- the reply at each position

-- the number of replies is unchanged
pub length-put_replies : (positions : List ℕ) (replies at : List Reply)
    → length (put_replies positions replies at) ≡ length at
length-put_replies [] replies at = refl
length-put_replies (i ∷ positions) [] at = refl
length-put_replies (i ∷ positions) (r ∷ replies) at =
    length-put_replies positions replies (set at i r) ∙ length-set at i r

-- the other positions keep their replies
pub get_or-put_replies_other : (positions : List ℕ) (replies at : List Reply) (k : ℕ) (d : Reply)
    → ¬ Contains positions k → get_or (put_replies positions replies at) k d ≡ get_or at k d
get_or-put_replies_other [] replies at k d other = refl
get_or-put_replies_other (i ∷ positions) [] at k d other = refl
get_or-put_replies_other (i ∷ positions) (r ∷ replies) at k d other =
    get_or-put_replies_other positions replies (set at i r) k d
    (λ h. other (Contains-cons i positions k h))
    ∙ get_or-set_other at i k r d
    (λ same. other (subst (Contains (i ∷ positions)) (sym same) (Contains-head i positions)))

-- the positions have the replies
pub map-put_replies : (positions : List ℕ) (replies at : List Reply) (d : Reply) → Once positions
    → All (λ i. i < length at) positions → length replies ≡ length positions
    → map (λ i. get_or (put_replies positions replies at) i d) positions ≡ replies
map-put_replies [] [] at d once within len = refl
map-put_replies [] (r ∷ replies) at d once within len = absurd (omega (arith, len))
map-put_replies (i ∷ positions) [] at d once within len = absurd (omega (arith, len))
map-put_replies (i ∷ positions) (r ∷ replies) at d once within len =
    ap₂ (λ s ss. s ∷ ss)
    (get_or-put_replies_other positions replies (set at i r) i d once.0
    ∙ get_or-set_same at i r d (All-head (λ k. k < length at) i positions within))
    (map-put_replies positions replies (set at i r) d once.1
    (All-weaker (λ k. k < length at) (λ k. k < length (set at i r))
    (λ k l. omega (arith, l, length-set at i r)) positions
    (All-tail (λ k. k < length at) i positions within)) (omega (arith, len)))

-- all other positions keep their replies
pub map-put_replies_other : (others positions : List ℕ) (replies at : List Reply) (d : Reply)
    → ((k : ℕ) → Contains others k → ¬ Contains positions k)
    → map (λ i. get_or (put_replies positions replies at) i d) others
    ≡ map (λ i. get_or at i d) others
map-put_replies_other others positions replies at d apart =
    map-agree (λ i. get_or (put_replies positions replies at) i d) (λ i. get_or at i d) others
    (λ k h. get_or-put_replies_other positions replies at k d (apart k h))
