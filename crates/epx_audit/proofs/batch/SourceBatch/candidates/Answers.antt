use Rattle.std.proofs.Common.{◌≡◌, ℕ, ◌<◌, List, Bool, length, get_or, ap, ◌∙◌, arith}
use Rattle.epx_types.proofs.Common.{get_or_read, All-get_or}
use Rattle.epx_components.specs.between.Partitions.{ComponentParts, parts, component_of, number_for}
use Rattle.epx_audit.specs.declared.batch.SourceBatch.{SourceBatch}
use Rattle.epx_audit.specs.inner.Batches.{IsWhole}
use Rattle.epx_audit.proofs.BatchLemmas.{IsReadyApart-by_bits, IsRelatedOrFree-by_bits}
use Rattle.epx_audit.proofs.batch.SourceBatch.candidates.Goals as goal

-- the words of a node and of its component
read_words : (p : ComponentParts) {ready : List Bool} (words : SourceBatch)
    (node own sharing reached reaching : ℕ) → IsWhole p ready words → node < length p.component
    → own ≡ get_or p.component node own → sharing ≡ get_or words.sharing.items node sharing
    → reached ≡ get_or words.reached.items own reached
    → reaching ≡ get_or words.reaching.items own reaching
    → (sharing ≡ get_or words.sharing.items node 0)
    × (reached ≡ number_for p words.reached.items node)
    × (reaching ≡ number_for p words.reaching.items node)
read_words p words node own sharing reached reaching whole below of_own first second third =
    let home : own ≡ component_of p node = get_or_read p.component node own below of_own 0 in
    let home_in = All-get_or (λ k. k < p.count) p.component node 0 below whole.counted in (
      get_or_read words.sharing.items node sharing (omega (arith, below, whole.nodes.0)) first 0,
      get_or_read words.reached.items own reached
          (omega (arith, home, home_in, whole.components.0)) second 0
          ∙ ap (λ k. get_or words.reached.items k 0) home,
      get_or_read words.reaching.items own reaching
          (omega (arith, home, home_in, whole.components.1)) third 0
          ∙ ap (λ k. get_or words.reaching.items k 0) home,
    )

pub returns-clause-apart : goal.returns-clause-apart
returns-clause-apart c g touches sources b batch within h =
    let p = parts c.args.partition.now in
    let words = c.args.self.now in
    let node = c.args.node in
    let below : node < length p.component = omega (arith, c.requires.node, c.requires.whole.nodes.1)
    in
    let (sharing, reached, reaching) = read_words p words node _ _ _ _ c.requires.whole below
    c.index-own.ensures c.index.ensures c.index-2.ensures c.index-3.ensures in
    let alone =
    (rw (sharing, reached, reaching) at
    (c.bits_without.ensures b (omega (arith, within, batch.few)))).0 h in
    IsReadyApart-by_bits g p touches sources words c.args.ready.now batch b node within below
    c.if-not-ready-node.false alone

pub returns-clause-rest : goal.returns-clause-rest
returns-clause-rest c g touches sources b batch within none =
    let p = parts c.args.partition.now in
    let words = c.args.self.now in
    let node = c.args.node in
    let below : node < length p.component = omega (arith, c.requires.node, c.requires.whole.nodes.1)
    in
    let (sharing, reached, reaching) = read_words p words node _ _ _ _ c.requires.whole below
    c.index-own.ensures c.index.ensures c.index-2.ensures c.index-3.ensures in
    IsRelatedOrFree-by_bits g p touches sources words c.args.ready.now batch b node within below
    (λ alone. none
    ((rw (sharing, reached, reaching) at
    (c.bits_without.ensures b (omega (arith, within, batch.few)))).1 alone))
