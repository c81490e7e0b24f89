use Rattle.std.proofs.Common.{◌≡◌, ◌⊎◌, ℕ, ◌+◌, ◌<◌, List, length, length-set, get_or, IsTrue}
use Rattle.std.proofs.Common.{IsFalse, sym, subst, ap, ◌∙◌, arith}
use Rattle.epx_types.proofs.Common.{get_or_read}
use Rattle.epx_audit.specs.declared.doubtful_touches.DoubtfulTouch.{DoubtfulTouch}
use Rattle.epx_audit.specs.inner.SourceBits.{HasBitsOf}
use Rattle.epx_audit.proofs.SharingMarkLemmas.{doubtful_at, doubtful_at-index, AreKeyed}
use Rattle.epx_audit.proofs.SharingMarkLemmas.{AreKeyed-next, AreKeyed-skip, doubtful_at-in_range}
use Rattle.epx_audit.proofs.sharing_marks.key_marks.Goals as goal
use Rattle.epx_audit.proofs.sharing_marks.key_marks.Goals.{then-touch}
use Rattle.epx_audit.proofs.sharing_marks.key_marks.Goals.{else-touch+else-not-only_writes}

pub offset_bounds-own-touch : goal.offset_bounds-own-touch
offset_bounds-own-touch c = omega (
  arith,
  doubtful_at-in_range c.deref-touch-items.ensures.value (length c.args.own.now)
      c.args.doubtful.now.keys
      c.loop-touch.touch-index c.loop-touch-test.true c.requires,
)

pub bounds-own-touch : goal.bounds-own-touch
bounds-own-touch c = (doubtful_at-in_range c.deref-touch-items.ensures.value
    (length c.args.own.now) c.args.doubtful.now.keys c.loop-touch.touch-index
    c.loop-touch-test.true c.requires).0

pub index_mut-requires : goal.index_mut-requires
index_mut-requires c =
    let in_range = doubtful_at-in_range c.deref-touch-items.ensures.value (length c.args.own.now)
    c.args.doubtful.now.keys c.loop-touch.touch-index c.loop-touch-test.true c.requires in
    omega (arith, in_range.1, c.loop-touch.invariant.len, c.loop-touch.words.ok.0)

pub loop-touch-preserved : goal.loop-touch-preserved
loop-touch-preserved c =
    let touches = c.args.doubtful.now.touches.items in
    let own = c.args.own.now in
    let only = c.args.only_writes in
    let words = c.loop-touch.words.items in
    let old = c.loop-touch.invariant in
    let n = c.loop-touch.touch-index in
    let items = c.deref-touch-items.ensures.value in
    let same : doubtful_at c.deref-touch-items.result.now n ≡ doubtful_at touches n =
    ap (λ ts. doubtful_at ts n) items in
    let key = ap (λ (t : DoubtfulTouch). t.key) same in
    let in_range = doubtful_at-in_range c.deref-touch-items.ensures.value (length c.args.own.now)
    c.args.doubtful.now.keys c.loop-touch.touch-index c.loop-touch-test.true c.requires in
    let within : (doubtful_at touches n).key < length words =
    omega (arith, in_range.1, key, old.len) in
    let Keyed : List ℕ → Type 0 = λ words. AreKeyed touches own only words (n + 1) in
    elim c.if-touch.branch [
      | then-touch w ↦
          let node = ap (λ (t : DoubtfulTouch). t.node) same in
          let read : w.index_mut.result.now ≡ get_or words (doubtful_at touches n).key 0 =
          get_or_read words _ _ (omega (arith, key, within)) w.index_mut.ensures.value 0
          ∙ ap (λ k. get_or words k 0) key in
          let is = ap (λ v. v.items) w.words-is in
          record {
            len = ap length is ∙ (length-set words _ _ ∙ old.len);
            marks = subst Keyed (sym is)
                (rw (key, node, read) (AreKeyed-next touches own only words n within old.marks));
          }
      | else-touch+else-not-only_writes w ↦ record {
        len = ap (λ v. length v.items) w.words-is ∙ old.len;
        marks = subst Keyed (sym (ap (λ v. v.items) w.words-is))
            (AreKeyed-skip touches own only words n
            (ap (λ (t : DoubtfulTouch). t.writes) (sym same) ∙ w.if-touch.false)
            w.if-not-only_writes.false old.marks);
      }
    ]

pub returns-clause-marks : goal.returns-clause-marks
returns-clause-marks c t h one =
    let touches = c.args.doubtful.now.touches.items in
    let own = c.args.own.now in
    let words = c.loop-touch.words.items in
    let at = doubtful_at-index touches t h in
    let which : IsFalse c.args.only_writes ⊎ IsTrue (doubtful_at touches h.0).writes =
    subst (λ (t : DoubtfulTouch). IsFalse c.args.only_writes ⊎ IsTrue t.writes) (sym at) one in
    subst (λ (t : DoubtfulTouch). HasBitsOf (get_or own t.node 0) (get_or words t.key 0)) at
    (c.loop-touch.invariant.marks h.0
    (omega (arith, h.1, c.loop-touch-test.false, ap length c.deref-touch-items.ensures.value))
    which)
