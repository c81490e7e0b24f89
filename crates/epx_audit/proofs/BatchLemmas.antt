-- What the words of a batch say about a node.
use Rattle.std.proofs.Common.{◌≡◌, inl, inr, ℕ, ◌<◌, List, Bool, length, get_or, IsTrue, sym, ◌∙◌}
use Rattle.std.proofs.Common.{arith}
use Rattle.epx_types.proofs.Common.{cases_Bool, false≢true}
use Rattle.epx_graph.proofs.Common.{DependencyGraph, edges_of}
use Rattle.epx_components.specs.between.Partitions.{ComponentParts, IsPartitionOf, number_for}
use Rattle.epx_audit.specs.declared.batch.SourceBatch.{SourceBatch}
use Rattle.epx_audit.specs.declared.doubtful_touches.DoubtfulTouch.{DoubtfulTouch}
use Rattle.epx_audit.specs.inner.Batches.{IsBatch, IsWhole, IsReadyApart}
use Rattle.epx_audit.specs.inner.DoubtfulKeys.{IsRelatedOrFree}
use Rattle.epx_components.specs.between.ReadyMarks.{is_marked}
use Rattle.epx_audit.specs.inner.SourceBits.{has_bit, HasAlone}

module _ (g : DependencyGraph) (p : ComponentParts) (touches : List DoubtfulTouch)
    (sources : List ℕ)
    (words : SourceBatch) (ready : List Bool) (is : IsBatch g p touches sources words) where
  pub IsWhole-batch : IsPartitionOf g p → length ready ≡ length g.ids → IsWhole p ready words
  IsWhole-batch partition same = record {
    counted = partition.is.counted;
    components = (is.whole.0, is.whole.1);
    nodes = (omega (arith, is.whole.2, is.nodes), omega (arith, same, is.nodes));
  }

  module _ (b k : ℕ) (within : b < length sources) (below : k < length p.component) where
    -- bit b of the three words of a node
    abbrev pub IsOwn : Type 0
    IsOwn = HasAlone b (get_or words.sharing.items k 0) (number_for p words.reached.items k)
        (number_for p words.reaching.items k)

    pub IsReadyApart-by_bits : IsTrue (is_marked ready k) → IsOwn
        → IsReadyApart (edges_of g) ready (get_or sources b 0) k
    IsReadyApart-by_bits is_ready own =
        let lk : k < length g.ids = omega (arith, below, is.nodes) in
        record {
          is_ready = is_ready;
          apart = (
            (λ there. own.first ((is.reached b k within lk).1 there)),
            (λ back. own.second ((is.reaching b k within lk).1 back)),
          );
        }

    pub IsRelatedOrFree-by_bits : ¬ IsOwn
        → IsRelatedOrFree (edges_of g) ready touches (get_or sources b 0) k
    IsRelatedOrFree-by_bits none is_ready share =
        let lk : k < length g.ids = omega (arith, below, is.nodes) in
        elim (cases_Bool (has_bit b (number_for p words.reached.items k))) [
          | inl has ↦ inl ((is.reached b k within lk).0 has)
          | inr lacks ↦ elim (cases_Bool (has_bit b (number_for p words.reaching.items k))) [
            | inl has ↦ inr ((is.reaching b k within lk).0 has)
            | inr lacks' ↦ absurd (none (record {
              has = is.sharing b k within share;
              first = λ h. false≢true (sym lacks ∙ h);
              second = λ h. false≢true (sym lacks' ∙ h);
            }))
          ]
        ]
