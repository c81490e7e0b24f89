use Rattle.std.proofs.Common.{T, ap, map, subst, sym, ◌∙◌}
use Rattle.epx_types.proofs.Common.{IsPermutation-map, IsPermutation-trans}
use Rattle.epx_store.proofs.UniqueKeyLemmas.{entries-rising, rises-sorted}
use Rattle.epx_store.proofs.store.sorted_by_key.Goals.{then-not-rises+in_ok-sort, else-not-rises}
use Rattle.epx_store.proofs.store.sorted_by_key.Goals as goal

pub returns : goal.returns
returns c =
    elim c.if-not-rises.branch [
      | then-not-rises+in_ok-sort w ↦ λ shards are placed.
          ap (λ v. map (λ p. (p.0.now, p.1)) v.items) w.pairs-is
          ∙ entries-rising (λ p. p.0.now) (λ p. p.1) shards w.sort.new.self.items are
          (IsPermutation-trans _ _ _ placed
          (IsPermutation-map (λ p. (p.0.now, p.1)) _ _ w.in_ok-sort.ensures.permutation))
          (rises-sorted (λ p. p.0.now) (λ p. p.1) w.sort.new.self.items
          w.in_ok-sort.ensures.sorted)
      | else-not-rises w ↦ λ shards are placed.
          ap (λ v. map (λ p. (p.0.now, p.1)) v.items) w.pairs-is
          ∙ entries-rising (λ p. p.0.now) (λ p. p.1) shards c.args.pairs.items are placed
          (λ _. c.requires (subst T (sym w.if-not-rises.false) tt))
    ]
