use Rattle.std.proofs.Common.{◌≡◌, ◌↔◌, ◌⊎◌, ◌+◌, ◌-◌, ◌<◌, ℕ, List, length, get_or, IsTrue, sym}
use Rattle.std.proofs.Common.{subst, ap, ◌∙◌, arith}
use Rattle.epx_types.proofs.Common.{get_or_read, with_items_is, All-get_or}
use Rattle.epx_graph.proofs.Common.{edges_of}
use Rattle.epx_components.specs.between.Partitions.{ComponentParts, IsPartition, parts}
use Rattle.epx_components.specs.between.Partitions.{component_of, node_at, number_for}
use Rattle.epx_components.proofs.PartitionLemmas.{node_at-within, component_of-within}
use Rattle.epx_audit.specs.inner.SourceBits.{has_bit}
use Rattle.epx_audit.proofs.BitLemmas.{has_bit-zero}
use Rattle.epx_audit.proofs.ReachedBitLemmas.{AreReachedBits, AreReachedBits-first}
use Rattle.epx_audit.proofs.ReachedBitLemmas.{AreReachedBits-step}
use Rattle.epx_audit.proofs.ReachedBitLemmas.{AreReachedBits-skip, has_bit-decides_reached}
use Rattle.epx_audit.proofs.related.find_reached.Goals as goal

pub loop-position-init : goal.loop-position-init
loop-position-init c =
    let edges = edges_of c.args.graph.now in
    let p = parts c.args.partition.now in
    let sources = c.args.sources.now in
    let words = c.in_ok-words.words.items in
    record {
      len = c.in_ok-words.ensures.len;
      marks = subst (AreReachedBits edges p sources words) (omega (arith, c.len-position.ensures))
          (AreReachedBits-first edges p c.requires.partition.is sources words
          c.in_ok-words.ensures.marks
          (rw (sym c.requires.partition.each_node) at c.requires.sources));
    }

-- the node at a position of the order, and the word of its component
read_word : (edges : ℕ → List ℕ) (p : ComponentParts) → IsPartition edges p → (words : List ℕ)
    (n node own word : ℕ) → n < length p.order → length words ≡ p.count
    → node ≡ get_or p.order n node → own ≡ get_or p.component node own
    → word ≡ get_or words own word
    → (node ≡ node_at p n) × (word ≡ number_for p words (node_at p n))
read_word edges p is words n node own word l len of_node of_own of_word =
    let at : node ≡ node_at p n = get_or_read p.order n node l of_node 0 in
    let node_in = node_at-within edges p is n l in
    let home : own ≡ component_of p (node_at p n) =
    get_or_read p.component node own (omega (arith, at, node_in)) of_own 0
    ∙ ap (λ k. get_or p.component k 0) at in
    let home_in = component_of-within edges p is (node_at p n) node_in in (
      at,
      get_or_read words own word (omega (arith, home, home_in, len)) of_word 0
          ∙ ap (λ c. get_or words c 0) home,
    )

pub loop-position-preserved-then-word-ne0 : goal.loop-position-preserved-then-word-ne0
loop-position-preserved-then-word-ne0 c =
    let edges = edges_of c.args.graph.now in
    let p = parts c.args.partition.now in
    let is = c.requires.partition.is in
    let sources = c.args.sources.now in
    let n = c.loop-position.position - 1 in
    let vec = c.loop-position.words in
    let words = vec.items in
    let old = c.loop-position.invariant in
    let in' : n < length p.order =
    omega (
      arith,
      c.loop-position-test.true,
      c.loop-position.auto.position,
      c.len-position.ensures,
    ) in
    let (node, word) = read_word edges p is words n _ _ _ in' old.len c.index-node.ensures
    c.index.ensures c.index-word.ensures in
    let new = c.mark_targets.new.words in
    let read = c.deref_mut.ensures.value in
    let len : length new ≡ length words = c.mark_targets.ensures.len ∙ ap length read in
    let written = with_items_is vec new (len ∙ sym vec.ok.0) in
    let changed : (b c : ℕ) → IsTrue (has_bit b (get_or new c 0))
    ↔ (IsTrue (has_bit b (get_or words c 0))
    ⊎ (IsTrue (has_bit b (number_for p words (node_at p n))) × (i : ℕ)
    × (i < length (edges (node_at p n)))
    × (get_or p.component (get_or (edges (node_at p n)) i 0) 0 ≡ c))) =
    rw (read, c.edges.ensures.edges, c.deref.ensures.value, node, word) at
    c.mark_targets.ensures.marks in
    let position : c.loop-position.position ≡ n + 1 =
    omega (arith, c.loop-position-test.true, c.loop-position.auto.position) in
    record {
      len = ap length written ∙ len ∙ old.len;
      marks = subst (λ words. AreReachedBits edges p sources words n) (sym written)
          (AreReachedBits-step edges p is sources words new n in' changed
          (subst (AreReachedBits edges p sources words) position old.marks));
    }

pub loop-position-preserved : goal.loop-position-preserved
loop-position-preserved c =
    let edges = edges_of c.args.graph.now in
    let p = parts c.args.partition.now in
    let is = c.requires.partition.is in
    let sources = c.args.sources.now in
    let n = c.loop-position.position - 1 in
    let words = c.loop-position.words.items in
    let old = c.loop-position.invariant in
    let in' : n < length p.order =
    omega (
      arith,
      c.loop-position-test.true,
      c.loop-position.auto.position,
      c.len-position.ensures,
    ) in
    let (node, word) = read_word edges p is words n _ _ _ in' old.len c.index-node.ensures
    c.index.ensures c.index-word.ensures in
    let position : c.loop-position.position ≡ n + 1 =
    omega (arith, c.loop-position-test.true, c.loop-position.auto.position) in
    let none : (b : ℕ) → ¬ IsTrue (has_bit b (number_for p words (node_at p n))) =
    λ b h. has_bit-zero b (subst (λ w. IsTrue (has_bit b w)) (sym word ∙ c.if-word-ne0.false) h) in
    record {
      len = old.len;
      marks = AreReachedBits-skip edges p is sources words n none
          (subst (AreReachedBits edges p sources words) position old.marks);
    }

pub returns-clause-reached : goal.returns-clause-reached
returns-clause-reached c = λ b k lb lk.
    let edges = edges_of c.args.graph.now in
    let p = parts c.args.partition.now in
    let sources = c.args.sources.now in
    let words = c.loop-position.words.items in
    let end : c.loop-position.position ≡ 0 = omega (arith, c.loop-position-test.false) in
    let source = All-get_or (λ k. k < length c.args.graph.now.ids) sources b 0 lb
    c.requires.sources in
    has_bit-decides_reached edges p c.requires.partition.is sources words
    (subst (AreReachedBits edges p sources words) end c.loop-position.invariant.marks) b k lb
    (omega (arith, source, c.requires.partition.each_node))
    (omega (arith, lk, c.requires.partition.each_node))
