use Rattle.std.proofs.Common.{◌≡◌, inl, inr, ◌<◌, Bool, length, length-set, get_or, cond, Contains}
use Rattle.std.proofs.Common.{refl, sym, subst, ap, ◌∙◌, arith}
use Rattle.epx_types.proofs.Common.{get_or_read}
use Rattle.epx_audit.specs.declared.doubtful_touches.DoubtfulTouch.{DoubtfulTouch}
use Rattle.epx_audit.specs.inner.SourceBits.{HasBitsOf}
use Rattle.epx_audit.proofs.SharingMarkLemmas.{doubtful_at, doubtful_at-index, word_of}
use Rattle.epx_audit.proofs.SharingMarkLemmas.{AreShared-next, AreSharing-from_words}
use Rattle.epx_audit.proofs.SharingMarkLemmas.{doubtful_at-in_range}
use Rattle.epx_audit.proofs.sharing_marks.sharing_marks.Goals as goal
use Rattle.epx_audit.proofs.sharing_marks.sharing_marks.Goals.{then-touch, else-touch}

pub index-requires : goal.index-requires
index-requires c =
    let in_range = doubtful_at-in_range c.deref-touch-items.ensures.value (length c.args.own.now)
    c.args.doubtful.now.keys c.loop-touch.touch-index c.loop-touch-test.true c.requires.doubtful in
    omega (arith, in_range.1, c.in_ok-touching.ensures.len, c.in_ok-touching.touching.ok.0)

pub index-requires-else-touch : goal.index-requires-else-touch
index-requires-else-touch c =
    let in_range = doubtful_at-in_range c.deref-touch-items.ensures.value (length c.args.own.now)
    c.args.doubtful.now.keys c.loop-touch.touch-index c.loop-touch-test.true c.requires.doubtful in
    omega (arith, in_range.1, c.in_ok-writing.ensures.len, c.in_ok-writing.writing.ok.0)

pub index_mut-requires : goal.index_mut-requires
index_mut-requires c =
    let in_range = doubtful_at-in_range c.deref-touch-items.ensures.value (length c.args.own.now)
    c.args.doubtful.now.keys c.loop-touch.touch-index c.loop-touch-test.true c.requires.doubtful in
    omega (arith, in_range.0, c.loop-touch.invariant.len, c.loop-touch.words.ok.0)

pub loop-touch-preserved : goal.loop-touch-preserved
loop-touch-preserved c =
    let touches = c.args.doubtful.now.touches.items in
    let touching = c.in_ok-touching.touching.items in
    let writing = c.in_ok-writing.writing.items in
    let words = c.loop-touch.words.items in
    let old = c.loop-touch.invariant in
    let n = c.loop-touch.touch-index in
    let items = c.deref-touch-items.ensures.value in
    let touch = doubtful_at touches n in
    let same : doubtful_at c.deref-touch-items.result.now n ≡ touch =
    ap (λ ts. doubtful_at ts n) items in
    let in_range = doubtful_at-in_range c.deref-touch-items.ensures.value (length c.args.own.now)
    c.args.doubtful.now.keys c.loop-touch.touch-index c.loop-touch-test.true c.requires.doubtful in
    let key = ap (λ (t : DoubtfulTouch). t.key) same in
    let node = ap (λ (t : DoubtfulTouch). t.node) same in
    let writes = ap (λ (t : DoubtfulTouch). t.writes) same in
    let within : touch.node < length words = omega (arith, in_range.0, node, old.len) in
    let word : c.if-touch.word ≡ word_of touching writing touch = elim c.if-touch.branch [
      | then-touch w ↦ w.word-is ∙ get_or_read touching _ _
          (omega (arith, in_range.1, c.in_ok-touching.ensures.len)) w.index.ensures 0
          ∙ ap (λ k. get_or touching k 0) key ∙ sym
          (ap (λ (b : Bool). cond b (get_or touching touch.key 0) (get_or writing touch.key 0))
          (sym writes ∙ w.if-touch.true))
      | else-touch w ↦ w.word-is ∙ get_or_read writing _ _
          (omega (arith, in_range.1, c.in_ok-writing.ensures.len)) w.index-else-touch.ensures
          0 ∙ ap (λ k. get_or writing k 0) key ∙ sym
          (ap (λ (b : Bool). cond b (get_or touching touch.key 0) (get_or writing touch.key 0))
          (sym writes ∙ w.if-touch.false))
    ] in
    let read : c.index_mut.result.now ≡ get_or words touch.node 0 =
    get_or_read words _ _ (omega (arith, node, within)) c.index_mut.ensures.value 0
    ∙ ap (λ k. get_or words k 0) node in
    record {
      len = length-set words _ _ ∙ old.len;
      marks = rw (node, read, word)
          (AreShared-next touches touching writing words n within old.marks);
    }

pub returns-clause-sharing : goal.returns-clause-sharing
returns-clause-sharing c =
    let touches = c.args.doubtful.now.touches.items in
    let touching = c.in_ok-touching.touching.items in
    let writing = c.in_ok-writing.writing.items in
    let words = c.loop-touch.words.items in
    let whole = λ (t : DoubtfulTouch) (h : Contains touches t).
    let at = doubtful_at-index touches t h in
    subst (λ (t : DoubtfulTouch). HasBitsOf (word_of touching writing t) (get_or words t.node 0))
    at (c.loop-touch.invariant.marks h.0
    (omega (
      arith,
      h.1,
      c.loop-touch-test.false,
      ap length c.deref-touch-items.ensures.value,
    ))) in
    AreSharing-from_words touches c.args.sources.now c.args.own.now touching writing words
    c.requires.own
    (λ t h. c.in_ok-touching.ensures.marks t h (inl refl))
    (λ t h one. c.in_ok-writing.ensures.marks t h (inr one)) whole
