-- Lines that are allowed one after another are the first lines of a base.
use Rattle.std.proofs.Common.{◌≡◌, ◌≢◌, ◌⊎◌, inl, inr, ℕ, ◌+◌, ◌<◌, ◌≤◌, ◌==◌, ◌&&◌, nat_lt, not}
use Rattle.std.proofs.Common.{Bool, true, false, T, ℤ, List, [], ◌∷◌, ◌++◌, length, Contains}
use Rattle.std.proofs.Common.{AllPairs, Option, Some, None, option_map, refl, sym, ap, ◌∙◌, subst}
use Rattle.std.proofs.Common.{arith, append-nil, append_assoc, is_lt, if◌then◌else◌}
use Rattle.epx_types.proofs.Common.{nat_tests, nil_from_length, length_push, Contains-append_left}
use Rattle.epx_types.proofs.Common.{Contains-push_cases, Contains-push, insert_key, is_sorted}
use Rattle.epx_types.proofs.Common.{below_all, id_cmp, key_cmp, is_among, and-first, and-second}
use Rattle.epx_types.proofs.Common.{Less-from_is_lt, Contains-nil, Contains-cons_cases}
use Rattle.epx_types.proofs.Common.{AllPairs-append, AllPairs-from_parts, IsRising-is_unique}
use Rattle.epx_types.proofs.Common.{IsRising-push}
use Rattle.epx_types.proofs.Common.{is_among-cases}
use Rattle.epx_types.specs.declared.id.Id.{Id}
use Rattle.epx_lines.proofs.EntryLemmas.{IsRising-insert}
use Rattle.epx_store.proofs.RisingEntryLemmas.{T-both, below_all-trans}
use Rattle.epx_report.specs.declared.from_value.Counts.{Counts}
use Rattle.epx_report.specs.declared.from_value.BaseLine.{BaseLine}
use Rattle.epx_report.specs.declared.from_value.BaseLine.TheVariants as line
use Rattle.epx_report.specs.Bases.{BaseParts, lines_in_order, AreDistinctIds, AreDoneIn}
use Rattle.epx_report.specs.inner.Progress.{Progress, nothing_seen, after, last, is_after_last}
use Rattle.epx_report.specs.inner.BaseReadings.{after_all}
use Rattle.epx_report.proofs.IdSetLemmas.{Below-if_after_last}
use Rattle.epx_report.proofs.LineOrderLemmas.{lines-done, lines-replies, lines-waiting}
use Rattle.epx_report.proofs.LineOrderLemmas.{lines-stored}
use Rattle.epx_report.proofs.RisingListLemmas.{Contains-insert_itself, Contains-insert_other}
use Rattle.epx_report.proofs.RisingListLemmas.{Contains-insert_cases, last-cons}
use Rattle.epx_report.proofs.WholeBaseLemmas.{state}

-- ---- tests

pub Some-from_if : {S : Type 0} (b : Bool) (x t : S) → (if b then Some x else None) ≡ Some t
    → (b ≡ true) × (x ≡ t)
Some-from_if true x t e = (refl, cc e)
Some-from_if false x t e = absurd (cc e)

pub and-both : (a b : Bool) → (a && b) ≡ true → (a ≡ true) × (b ≡ true)
and-both true b e = (refl, e)
and-both false b e = absurd (cc e)

pub eq-from_true : (m n : ℕ) → (m == n) ≡ true → m ≡ n
eq-from_true m n e = grind (arith, nat_tests)

lower : (m n : ℕ) → nat_lt m n ≡ true → m < n
lower m n e = grind (arith, nat_tests)

is_new : (done : List Id) (x : Id) → not (is_among done x) ≡ true → ¬ Contains done x
is_new done x e = elim (is_among-cases done x)
    [ inl found ↦ absurd (cc (ap not found.0, e)) | inr missed ↦ missed.1 ]

-- ---- lists with one more at the end

once_push : (xs : List Id) (x : Id) → AllPairs (λ y z. y ≢ z) xs → ¬ Contains xs x
    → AllPairs (λ y z. y ≢ z) (xs ++ x ∷ [])
once_push xs x once new =
    AllPairs-append (λ y z. y ≢ z) xs (x ∷ []) once
    (AllPairs-from_parts (λ y z. y ≢ z) x [] (λ y h. absurd (Contains-nil y h))
    (λ i j d k l. absurd (omega arith)))
    (λ y z h k e. elim (Contains-cons_cases x [] z k) [
      | inl same ↦ new (subst (Contains xs) (e ∙ sym same) h)
      | inr none ↦ Contains-nil z none
    ])

pub is_sorted-push : (es : List (List ℕ × ℤ)) (e : List ℕ × ℤ) → T (is_sorted key_cmp es)
    → is_after_last key_cmp (option_map (λ p. p.0) (last es)) e.0 ≡ true
    → T (is_sorted key_cmp (es ++ e ∷ []))
is_sorted-push [] e rises above = tt
is_sorted-push (d ∷ []) e rises above =
    T-both _ _ (T-both _ _ (subst T (sym above) tt) tt) tt
is_sorted-push (d ∷ c ∷ es) e rises above =
    let later = ap (λ o. is_after_last key_cmp (option_map (λ p. p.0) o) e.0)
    (sym (last-cons d c es)) ∙ above in
    let rest = is_sorted-push (c ∷ es) e
    (and-second (below_all key_cmp d.0 (c ∷ es)) (is_sorted key_cmp (c ∷ es)) rises) later in
    let next : T (is_lt (key_cmp d.0 c.0)) =
    and-first (is_lt (key_cmp d.0 c.0)) (below_all key_cmp d.0 es)
    (and-first (below_all key_cmp d.0 (c ∷ es)) (is_sorted key_cmp (c ∷ es)) rises) in
    T-both _ _
    (T-both _ _ next (below_all-trans d.0 c.0 (es ++ e ∷ [])
    (Less-from_is_lt (key_cmp d.0 c.0) next)
    (and-first (below_all key_cmp c.0 (es ++ e ∷ [])) (is_sorted key_cmp (es ++ e ∷ [])) rest)))
    rest

-- ---- the first lines of a base

-- The parts of the first lines of a base. There are waiting lines only after all replies, and store
-- lines only after all replies and all waiting lines.
pub record IsBegun (p : BaseParts) : Type 0 where
  pub distinct : AreDistinctIds p.done p.replied p.waiting
  pub stored_rise : T (is_sorted key_cmp p.stored)
  pub few_replies : length p.replied ≤ p.counts.executed
  pub few_waiting : length p.waiting ≤ p.counts.waiting
  pub waiting_later : (p.waiting ≡ []) ⊎ (length p.replied ≡ p.counts.executed)
  pub stored_later : (p.stored ≡ [])
      ⊎ ((length p.replied ≡ p.counts.executed) × (length p.waiting ≡ p.counts.waiting))

abbrev pub state_of : BaseParts → List Id → Progress
state_of p done = state p.counts done (length p.replied) p.waiting p.stored

-- the state is that after the lines, which are the first lines of a base
pub record IsAfter (s : Progress) (ls : List BaseLine) : Type 0 where
  pub parts : BaseParts
  pub done : List Id
  pub begun : IsBegun parts
  pub are_done : AreDoneIn parts.done parts.replied done
  pub state_is : state_of parts done ≡ s
  pub lines_are : lines_in_order parts ≡ ls

-- ---- one line more

no_element : {X : Type 0} (xs : List X) (x : X) → xs ≡ [] → ¬ Contains xs x
no_element xs x e h = Contains-nil x (subst (λ ys. Contains ys x) e h)

-- with one more instance done
done_with : (before replied done : List Id) (x : Id) (more : List Id) (again : List Id)
    → AreDoneIn before replied done
    → ((y : Id) → Contains more y ⊎ Contains again y
    → (Contains before y ⊎ Contains replied y) ⊎ (x ≡ y))
    → ((y : Id) → Contains before y ⊎ Contains replied y → Contains more y ⊎ Contains again y)
    → Contains more x ⊎ Contains again x → AreDoneIn more again (insert_key id_cmp done x)
done_with before replied done x more again h there back here = record {
  rising = IsRising-insert x done h.rising;
  each = λ y. (
    λ among. elim (Contains-insert_cases done x y among) [
      | inl same ↦ subst (λ z. Contains more z ⊎ Contains again z) same here
      | inr was ↦ back y ((h.each y).0 was)
    ],
    λ found. elim (there y found) [
      | inl was ↦ Contains-insert_other done x y ((h.each y).1 was)
      | inr same ↦ subst (Contains (insert_key id_cmp done x)) same
          (Contains-insert_itself done x)
    ],
  );
}

module _ (p : BaseParts) (done : List Id) (h : IsBegun p)
    (those : AreDoneIn p.done p.replied done) where
  new_done : (x : Id) → ¬ Contains done x → (¬ Contains p.done x) × (¬ Contains p.replied x)
  new_done x new = (λ k. new ((those.each x).1 (inl k)), λ k. new ((those.each x).1 (inr k)))

  -- a done line
  module _ (x : Id) (no_reply : p.replied ≡ []) (none_waits : p.waiting ≡ [])
      (none_stored : p.stored ≡ []) (above : is_after_last id_cmp (last done) x ≡ true) where
    all_done : done ≡ p.done
    all_done = IsRising-is_unique done p.done those.rising h.distinct.done_rise
        (λ y k. elim ((those.each y).0 k) [
          | inl was ↦ was
          | inr replied ↦ absurd (no_element p.replied y no_reply replied)
        ]) (λ y k. (those.each y).1 (inl k))

    past : is_after_last id_cmp (last p.done) x ≡ true
    past = subst (λ xs. is_after_last id_cmp (last xs) x ≡ true) all_done above

    begun-done : IsBegun (record p { done = p.done ++ x ∷ [] })
    begun-done = record {
      distinct = record {
        done_rise = IsRising-push p.done x h.distinct.done_rise
            (λ y k. Below-if_after_last p.done x y h.distinct.done_rise past k);
        replied_once = h.distinct.replied_once;
        replied_new = λ y k. absurd (no_element p.replied y no_reply k);
        waiting_rise = h.distinct.waiting_rise;
        waiting_left = λ y k. absurd (no_element p.waiting y none_waits k);
      };
      stored_rise = h.stored_rise;
      few_replies = h.few_replies;
      few_waiting = h.few_waiting;
      waiting_later = h.waiting_later;
      stored_later = h.stored_later;
    }

    pub after-done : IsAfter (state p.counts (insert_key id_cmp done x) (length p.replied)
        p.waiting p.stored) (lines_in_order p ++ line.Done x ∷ [])
    after-done = record {
      parts = record p { done = p.done ++ x ∷ [] };
      done = insert_key id_cmp done x;
      begun = begun-done;
      are_done = done_with p.done p.replied done x (p.done ++ x ∷ []) p.replied those
          (λ y k. elim k [
            | inl at ↦ elim (Contains-push_cases p.done x y at)
                [ inl was ↦ inl (inl was) | inr same ↦ inr same ]
            | inr replied ↦ inl (inr replied)
          ])
          (λ y k. elim k [
            | inl was ↦ inl (Contains-append_left p.done (x ∷ []) y was)
            | inr replied ↦ inr replied
          ])
          (inl (Contains-push p.done x));
      state_is = refl;
      lines_are = lines-done p.counts p.done (x ∷ []) p.replied p.waiting p.stored no_reply
          none_waits none_stored;
    }

  -- a reply line
  module _ (x : Id) (few : length p.replied < p.counts.executed) (new : ¬ Contains done x) where
    none_waits : p.waiting ≡ []
    none_waits = elim h.waiting_later [ inl none ↦ none | inr all ↦ absurd (omega arith) ]

    none_stored : p.stored ≡ []
    none_stored = elim h.stored_later [ inl none ↦ none | inr all ↦ absurd (omega (arith, all.0)) ]

    begun-reply : IsBegun (record p { replied = p.replied ++ x ∷ [] })
    begun-reply = record {
      distinct = record {
        done_rise = h.distinct.done_rise;
        replied_once = once_push p.replied x h.distinct.replied_once (new_done x new).1;
        replied_new = λ y k. elim (Contains-push_cases p.replied x y k) [
          | inl was ↦ h.distinct.replied_new y was
          | inr same ↦ subst (λ z. ¬ Contains p.done z) same (new_done x new).0
        ];
        waiting_rise = h.distinct.waiting_rise;
        waiting_left = λ y k. absurd (no_element p.waiting y none_waits k);
      };
      stored_rise = h.stored_rise;
      few_replies = omega (arith, length_push p.replied x, few);
      few_waiting = h.few_waiting;
      waiting_later = inl none_waits;
      stored_later = inl none_stored;
    }

    pub after-reply : IsAfter (state p.counts (insert_key id_cmp done x) (length p.replied + 1)
        p.waiting p.stored) (lines_in_order p ++ line.Reply x ∷ [])
    after-reply = record {
      parts = record p { replied = p.replied ++ x ∷ [] };
      done = insert_key id_cmp done x;
      begun = begun-reply;
      are_done = done_with p.done p.replied done x p.done (p.replied ++ x ∷ []) those
          (λ y k. elim k [
            | inl was ↦ inl (inl was)
            | inr at ↦ elim (Contains-push_cases p.replied x y at)
                [ inl was ↦ inl (inr was) | inr same ↦ inr same ]
          ])
          (λ y k. elim k [
            | inl was ↦ inl was
            | inr replied ↦ inr (Contains-append_left p.replied (x ∷ []) y replied)
          ])
          (inr (Contains-push p.replied x));
      state_is = ap (λ n. state p.counts (insert_key id_cmp done x) n p.waiting p.stored)
          (length_push p.replied x);
      lines_are = lines-replies p.counts p.done p.replied (x ∷ []) p.waiting p.stored none_waits
          none_stored;
    }

  -- a waiting line
  module _ (x : Id) (all : length p.replied ≡ p.counts.executed)
      (few : length p.waiting < p.counts.waiting)
      (above : is_after_last id_cmp (last p.waiting) x ≡ true) (new : ¬ Contains done x) where
    none_stored_yet : p.stored ≡ []
    none_stored_yet =
        elim h.stored_later [ inl none ↦ none | inr whole ↦ absurd (omega (arith, whole.1)) ]

    begun-waiting : IsBegun (record p { waiting = p.waiting ++ x ∷ [] })
    begun-waiting = record {
      distinct = record {
        done_rise = h.distinct.done_rise;
        replied_once = h.distinct.replied_once;
        replied_new = h.distinct.replied_new;
        waiting_rise = IsRising-push p.waiting x h.distinct.waiting_rise
            (λ y k. Below-if_after_last p.waiting x y h.distinct.waiting_rise above k);
        waiting_left = λ y k. elim (Contains-push_cases p.waiting x y k) [
          | inl was ↦ h.distinct.waiting_left y was
          | inr same ↦ subst (λ z. (¬ Contains p.done z) × (¬ Contains p.replied z)) same
              (new_done x new)
        ];
      };
      stored_rise = h.stored_rise;
      few_replies = h.few_replies;
      few_waiting = omega (arith, length_push p.waiting x, few);
      waiting_later = inr all;
      stored_later = inl none_stored_yet;
    }

    pub after-waiting : IsAfter (state p.counts done (length p.replied) (p.waiting ++ x ∷ [])
        p.stored) (lines_in_order p ++ line.Waiting x ∷ [])
    after-waiting = record {
      parts = record p { waiting = p.waiting ++ x ∷ [] };
      done = done;
      begun = begun-waiting;
      are_done = those;
      state_is = refl;
      lines_are = lines-waiting p.counts p.done p.replied p.waiting (x ∷ []) p.stored
          none_stored_yet;
    }

  -- a store line
  module _ (e : List ℕ × ℤ) (all : length p.replied ≡ p.counts.executed)
      (whole : length p.waiting ≡ p.counts.waiting)
      (above : is_after_last key_cmp (option_map (λ q. q.0) (last p.stored)) e.0 ≡ true) where
    pub after-store : IsAfter (state p.counts done (length p.replied) p.waiting
        (p.stored ++ e ∷ [])) (lines_in_order p ++ line.Store e.0 e.1 ∷ [])
    after-store = record {
      parts = record p { stored = p.stored ++ e ∷ [] };
      done = done;
      begun = record {
        distinct = h.distinct;
        stored_rise = is_sorted-push p.stored e h.stored_rise above;
        few_replies = h.few_replies;
        few_waiting = h.few_waiting;
        waiting_later = inr all;
        stored_later = inr (all, whole);
      };
      are_done = those;
      state_is = refl;
      lines_are = lines-stored p.counts p.done p.replied p.waiting p.stored (e ∷ []);
    }

  -- ---- any line that is allowed

  after_line : (l : BaseLine) (t : Progress) → after (state_of p done) l ≡ Some t
      → IsAfter t (lines_in_order p ++ l ∷ [])
  unfolding after
  after_line (line.Header d) t e = absurd (cc e)
  after_line (line.Done x) t e =
      let goes =
      Some-from_if _ (state p.counts (insert_key id_cmp done x) (length p.replied) p.waiting
      p.stored) t e in
      let rest = and-both _ _ goes.0 in
      let more = and-both _ _ rest.0 in
      let first = and-both _ _ more.0 in
      subst (λ s. IsAfter s (lines_in_order p ++ line.Done x ∷ [])) goes.1
      (after-done x (nil_from_length p.replied (eq-from_true _ _ first.0))
      (nil_from_length p.waiting (eq-from_true _ _ first.1))
      (nil_from_length p.stored (eq-from_true _ _ more.1)) rest.1)
  after_line (line.Reply x) t e =
      let goes = Some-from_if _ (state p.counts (insert_key id_cmp done x) (length p.replied + 1)
      p.waiting p.stored) t e in
      let tests = and-both _ _ goes.0 in
      subst (λ s. IsAfter s (lines_in_order p ++ line.Reply x ∷ [])) goes.1
      (after-reply x (lower _ _ tests.0) (is_new done x tests.1))
  after_line (line.Waiting x) t e =
      let goes = Some-from_if _ (state p.counts done (length p.replied) (p.waiting ++ x ∷ [])
      p.stored) t e in
      let rest = and-both _ _ goes.0 in
      let more = and-both _ _ rest.0 in
      let first = and-both _ _ more.0 in
      subst (λ s. IsAfter s (lines_in_order p ++ line.Waiting x ∷ [])) goes.1
      (after-waiting x (eq-from_true _ _ first.0) (lower _ _ first.1) more.1 (is_new done x rest.1))
  after_line (line.Store k v) t e =
      let goes = Some-from_if _ (state p.counts done (length p.replied) p.waiting
      (p.stored ++ (k, v) ∷ [])) t e in
      let rest = and-both _ _ goes.0 in
      let first = and-both _ _ rest.0 in
      subst (λ s. IsAfter s (lines_in_order p ++ line.Store k v ∷ [])) goes.1
      (after-store (k, v) (eq-from_true _ _ first.0) (eq-from_true _ _ first.1) rest.1)

-- ---- all lines

-- the state after any lines
abbrev pub IsReached : Progress → List BaseLine → Type 0
IsReached s ls = ((s ≡ nothing_seen) × (ls ≡ [])) ⊎ IsAfter s ls

-- the header alone
abbrev pub header_parts : Counts → BaseParts
header_parts c = record { counts = c; done = []; replied = []; waiting = []; stored = [] }

pub IsBegun-header_parts : (c : Counts) → IsBegun (header_parts c)
IsBegun-header_parts c = record {
  distinct = record {
    done_rise = tt;
    replied_once = λ i j d k l. absurd (omega arith);
    replied_new = λ x h. absurd (Contains-nil x h);
    waiting_rise = tt;
    waiting_left = λ x h. absurd (Contains-nil x h);
  };
  stored_rise = tt;
  few_replies = omega arith;
  few_waiting = omega arith;
  waiting_later = inl refl;
  stored_later = inl refl;
}

after_header : (l : BaseLine) (t : Progress) → after nothing_seen l ≡ Some t → IsAfter t (l ∷ [])
unfolding after
after_header (line.Header c) t e = record {
  parts = header_parts c;
  done = [];
  begun = IsBegun-header_parts c;
  are_done = record {
    rising = tt;
    each = λ x. (λ h. inl h, λ h. elim h [ inl was ↦ was | inr new ↦ new ]);
  };
  state_is = cc e;
  lines_are = refl;
}
after_header (line.Done x) t e = absurd (cc e)
after_header (line.Reply x) t e = absurd (cc e)
after_header (line.Waiting x) t e = absurd (cc e)
after_header (line.Store k v) t e = absurd (cc e)

reached_on : (s : Progress) (before : List BaseLine) (l : BaseLine) (t : Progress)
    → IsReached s before → after s l ≡ Some t → IsAfter t (before ++ l ∷ [])
reached_on s before l t (inl none) e =
    subst (λ ls. IsAfter t (ls ++ l ∷ [])) (sym none.1)
    (after_header l t (ap (λ u. after u l) (sym none.0) ∙ e))
reached_on s before l t (inr h) e =
    subst (λ ls. IsAfter t (ls ++ l ∷ [])) h.lines_are
    (after_line h.parts h.done h.begun h.are_done l t (ap (λ u. after u l) h.state_is ∙ e))

pub IsReached-after_all : (s : Progress) (before ls : List BaseLine) (t : Progress)
    → IsReached s before
    → after_all s ls ≡ Some t → IsReached t (before ++ ls)
IsReached-after_all s before [] t h e =
    let same : s ≡ t = cc e in
    subst (λ u. IsReached u (before ++ [])) same
    (subst (IsReached s) (sym (append-nil before)) h)
IsReached-after_all s before (l ∷ ls) t h e =
    next (after s l) refl (λ u. IsReached-after_all u (before ++ l ∷ []) ls t)
  where
    next : (o : Option Progress) → after s l ≡ o
        → ((u : Progress) → IsReached u (before ++ l ∷ []) → after_all u ls ≡ Some t
        → IsReached t ((before ++ l ∷ []) ++ ls))
        → IsReached t (before ++ l ∷ ls)
    next None none rest = let stopped : after_all s (l ∷ ls) ≡ None = rw none refl in
        absurd (cc (stopped, e))
    next (Some u) some rest =
        let more : after_all u ls ≡ Some t = (rw some at e) in
        subst (IsReached t) (append_assoc before (l ∷ []) ls)
        (rest u (inr (reached_on s before l u h some)) more)
