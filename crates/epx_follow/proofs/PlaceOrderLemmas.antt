-- Lines that are held in the order of their places.
use Rattle.std.proofs.Common.{◌≡◌, inl, inr, ◌+◌, Bool, true, false, not, List, [], ◌∷◌, ◌++◌, ℕ}
use Rattle.std.proofs.Common.{AllPairs, Contains, Result, Ok, Err, append-nil, append_assoc, arith}
use Rattle.std.proofs.Common.{None, Some, refl, sym, ap, ◌∙◌, subst}
use Rattle.epx_types.proofs.Common.{AllPairs-append, Contains-append_cases, Contains-append_left}
use Rattle.epx_types.proofs.Common.{Contains-append_right, Contains-cons_cases, Contains-nil}
use Rattle.epx_types.proofs.Common.{Earlier, Instance, IsRising, Placed, is_lt-trans, ids_of}
use Rattle.epx_types.proofs.Common.{is_lt-asymm, is_lt-irrefl, cases_Bool, id_cmp, is_among}
use Rattle.epx_types.proofs.Common.{is_among-cases, is_eq, nat_tests, place_cmp-IsTotalOrder}
use Rattle.epx_types.proofs.lists.ListPositionLemmas.{AllPairs-head, AllPairs-tail}
use Rattle.epx_types.specs.declared.fault.Why.{Why}
use Rattle.epx_types.specs.declared.id.Id.{Id}
use Rattle.epx_types.specs.declared.place.Place.{Place}
use Rattle.epx_committed.proofs.LineOrderLemmas.{Earlier-same_log}
use Rattle.epx_committed.specs.MergedLines.{IsMergeFault}
use Rattle.epx_lines.specs.Meaning.{is_blank, meaning_of}
use Rattle.epx_lines.specs.declared.Line.{Line}
use Rattle.epx_lines.specs.declared.Line.TheVariants.{Blank, Entry}
use Rattle.epx_follow.specs.BatchEnds.{EndsBatch, first_line}
use Rattle.epx_follow.specs.Following.{FollowerView, at_next_log, held_lines, joined, next_line}
use Rattle.epx_follow.specs.Following.{new_follower, passed}
use Rattle.epx_follow.specs.LinesTaken.{EndsIf, TakesAs}
use Rattle.epx_follow.specs.PlaceOrderLaws.{AreInPlaceOrder, FirstLinesAreEarliest}
use Rattle.epx_follow.specs.PlaceOrderLaws.{LinesStayInOrder, RefusedBatchIsARefusedMerge}
use Rattle.epx_follow.proofs.CallPlaceLemmas.{IsMergeFault-real}
use Rattle.epx_follow.proofs.CountLemmas.{IsRising-filter}
use Rattle.epx_follow.proofs.FirstLineLemmas.{first_line-cases, first_line-earlier}
use Rattle.epx_follow.proofs.FirstLineLemmas.{first_line-finds, first_line-found}
use Rattle.epx_follow.proofs.FirstLineLemmas.{first_line-later, Placed-same_instance}
use Rattle.epx_follow.proofs.FirstLineLemmas.{id_cmp-from_same}
use Rattle.epx_follow.proofs.HeldLineLemmas.{Contains-push_each, with_line}
use Rattle.epx_follow.proofs.HoldLemmas.{joined-done, joined-new}

-- what is before a line is before the next one
before_next : (p q : Place) → Earlier p q → Earlier p (next_line q)
before_next p q l = is_lt-trans place_cmp-IsTotalOrder p q (next_line q) l
    (Earlier-same_log q (next_line q) refl (omega arith))

earlier_next : (p : Place) → Earlier p (record { log = p.log + 1; line = 1 })
earlier_next p = grind (arith, nat_tests)

order_new : AreInPlaceOrder new_follower
order_new = record {
  rising = tt;
  left = λ p h. absurd (Contains-nil p h);
  in_order = λ i j d l k. absurd (omega (arith, l, k));
  apart = λ p q h k. absurd (Contains-nil p h);
  past = λ p h. absurd (Contains-nil p h);
}

order_passed : (v : FollowerView) → AreInPlaceOrder v → AreInPlaceOrder (passed v)
order_passed v h = record {
  rising = h.rising;
  left = h.left;
  in_order = h.in_order;
  apart = h.apart;
  past = λ p in_p. before_next p.place v.next (h.past p in_p);
}

order_next_log : (v : FollowerView) → AreInPlaceOrder v → AreInPlaceOrder (at_next_log v)
order_next_log v h = record {
  rising = h.rising;
  left = h.left;
  in_order = h.in_order;
  apart = h.apart;
  past = λ p in_p. is_lt-trans place_cmp-IsTotalOrder p.place v.next (at_next_log v).next
      (h.past p in_p) (earlier_next v.next);
}

-- ---- a line of an instance

module _ (v : FollowerView) (e : Instance) (h : AreInPlaceOrder v) where
  abbrev line : Placed
  line = record { place = v.next; instance = e }

  order_with : ¬ Contains v.done e.id → AreInPlaceOrder (with_line v e)
  order_with new = record {
    rising = h.rising;
    left = Contains-push_each (λ p. ¬ Contains v.done p.instance.id) v.batch line h.left new;
    in_order = AllPairs-append (λ p q. Earlier p.place q.place) v.batch (line ∷ []) h.in_order
        (λ i j d l k. absurd (omega (arith, l, k)))
        (λ p q in_p last. elim (Contains-cons_cases line [] q last) [
          | inl here ↦ subst (λ (r : Placed). Earlier p.place r.place) here
              (h.past p (Contains-append_right v.pending v.batch p in_p))
          | inr none ↦ absurd (Contains-nil q none)
        ]);
    apart = λ p q in_p. Contains-push_each (λ r. Earlier p.place r.place) v.batch line
        (λ r. h.apart p r in_p) (h.past p (Contains-append_left v.pending v.batch p in_p)) q;
    past =
        λ p in_p. Contains-push_each (λ q. Earlier q.place (next_line v.next)) (held_lines v) line
        (λ q in_q. before_next q.place v.next (h.past q in_q))
        (Earlier-same_log v.next (next_line v.next) refl (omega arith)) p
        (subst (λ (ls : List Placed). Contains ls p)
        (sym (append_assoc v.pending v.batch (line ∷ []))) in_p);
  }

  order_joined : AreInPlaceOrder (joined v e)
  order_joined = elim (is_among-cases v.done e.id) [
    | inl executed ↦ subst AreInPlaceOrder (sym (joined-done v e executed.1)) (order_passed v h)
    | inr left ↦ subst AreInPlaceOrder (sym (joined-new v e left.1)) (order_with left.1)
  ]

-- ---- the end of a batch

order_ended : (v w : FollowerView) (text : List ℕ) → AreInPlaceOrder v → EndsBatch v w text
    → AreInPlaceOrder w
order_ended v w text h ends =
    let none : (p : Placed) → ¬ Contains w.batch p =
    λ p there. Contains-nil p (subst (λ (ls : List Placed). Contains ls p) ends.closed.0 there) in
    record {
      rising = subst (λ (m : List Instance). IsRising (ids_of m)) (sym ends.pending.instances)
          (IsRising-filter (λ e. not (is_among w.done e.id)) ends.other
          ends.merged.committed.rising);
      left = λ p there. absurd (none p there);
      in_order = subst (AllPairs (λ p q. Earlier p.place q.place)) (sym ends.closed.0)
          (λ i j d l k. absurd (omega (arith, l, k)));
      apart = λ p q there k. absurd (none q k);
      past = λ p there.
          let waits : Contains w.pending p = subst (λ (ls : List Placed). Contains ls p)
          (append-nil w.pending)
          (subst (λ (ls : List Placed). Contains (w.pending ++ ls) p) ends.closed.0 there) in
          subst (Earlier p.place) (sym ends.next)
          (h.past p (first_line-found (held_lines v) p.instance.id p
          (ends.pending.first p waits)).0);
    }

order_if : (ends : Bool) (v w : FollowerView) (text : List ℕ) → AreInPlaceOrder v
    → EndsIf ends v w text → AreInPlaceOrder w
order_if true v w text h ends = order_ended v w text h ends
order_if false v w text h ends = subst AreInPlaceOrder (sym ends.0) h

order_as : (each blank : Bool) (m : Result Line Why) (v w : FollowerView) (text : List ℕ)
    → AreInPlaceOrder v → TakesAs each blank m v w text → AreInPlaceOrder w
order_as each true m v w text h takes = order_ended (passed v) w text (order_passed v h) takes
order_as each false (Ok Blank) v w text h takes =
    order_if each (passed v) w text (order_passed v h) takes
order_as each false (Ok (Entry e)) v w text h takes =
    order_if each (joined v e) w text (order_joined v e h) takes
order_as each false (Err why) v w text h takes = absurd takes

-- ---- first lines

-- where lines are in order, the first one of an instance is the earliest
earliest : (lines : List Placed) → AllPairs (λ a b. Earlier a.place b.place) lines
    → (x : Id) (p q : Placed) → first_line lines x ≡ Some p → Contains lines q
    → q.instance.id ≡ x → ¬ Earlier q.place p.place
earliest [] pairs x p q found in_q named early = Contains-nil q in_q
earliest (l ∷ lines) pairs x p q found in_q named early =
    elim (cases_Bool (is_eq (id_cmp l.instance.id x))) [
      | inl here ↦
          let is : l ≡ p = cc (rw here at found) in
          elim (Contains-cons_cases l lines q in_q) [
            | inl same ↦ is_lt-irrefl place_cmp-IsTotalOrder p.place
                (subst (λ (r : Placed). Earlier r.place p.place) (sym same ∙ is) early)
            | inr rest ↦ is_lt-asymm place_cmp-IsTotalOrder q.place p.place early
                (subst (λ (r : Placed). Earlier r.place q.place) is
                (AllPairs-head (λ a b. Earlier a.place b.place) l lines q pairs rest))
          ]
      | inr other ↦ elim (Contains-cons_cases l lines q in_q) [
        | inl same ↦
            let here = id_cmp-from_same l.instance.id x
            (ap (λ (r : Placed). r.instance.id) same ∙ named) in
            cc (here, other)
        | inr rest ↦
            earliest lines (AllPairs-tail (λ a b. Earlier a.place b.place) l lines pairs) x p q
            (rw other at found) rest named early
      ]
    ]

-- ---- the laws

pub LinesStayInOrder-holds : LinesStayInOrder
LinesStayInOrder-holds = (
  order_new,
  order_passed,
  order_joined,
  λ each line v w text h takes.
      order_as each (is_blank line) (meaning_of line) v w text h takes,
  order_next_log,
)

pub FirstLinesAreEarliest-holds : FirstLinesAreEarliest
FirstLinesAreEarliest-holds v h p q found in_q named =
    let x = p.instance.id in
    elim (first_line-cases v.pending x) [
      | inl none ↦
          let first : first_line v.batch x ≡ Some p =
          sym (first_line-later v.pending v.batch x none) ∙ found in
          elim (Contains-append_cases v.pending v.batch q in_q) [
            | inl old ↦
                let there = first_line-finds v.pending q old in
                let differ : None ≡ Some there.0 =
                sym none ∙ ap (first_line v.pending) (sym named) ∙ there.1 in
                absurd (cc differ)
            | inr new ↦ earliest v.batch h.in_order x p q first new named
          ]
      | inr some ↦
          let first = first_line-earlier v.pending v.batch x some.0 some.1 in
          let is : some.0 ≡ p = cc (sym first ∙ found) in
          let known = first_line-found v.pending x some.0 some.1 in
          let waits : Contains v.pending p = subst (Contains v.pending) is known.0 in
          elim (Contains-append_cases v.pending v.batch q in_q) [
            | inl old ↦ λ early. is_lt-irrefl place_cmp-IsTotalOrder p.place
                (subst (λ (r : Placed). Earlier r.place p.place)
                (Placed-same_instance v.pending h.rising q p old waits named) early)
            | inr new ↦ λ early. is_lt-asymm place_cmp-IsTotalOrder q.place p.place early
                (h.apart p q waits new)
          ]
    ]

pub RefusedBatchIsARefusedMerge-holds : RefusedBatchIsARefusedMerge
RefusedBatchIsARefusedMerge-holds v h fault (inl memory) =
    subst (IsMergeFault (held_lines v)) (sym memory) tt
RefusedBatchIsARefusedMerge-holds v h fault (inr call) =
    subst (IsMergeFault (held_lines v)) (sym call.named)
    (IsMergeFault-real v.done v.pending v.batch h.left h.rising h.apart h.in_order call.call
    call.refused)
