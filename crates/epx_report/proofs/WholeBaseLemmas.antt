-- The lines of a whole base are read: each is allowed at its position and none is missing.
use Rattle.std.proofs.Common.{◌≡◌, ◌≢◌, ◌⊎◌, inl, inr, ◌↔◌, ℕ, ◌+◌, ◌<◌, ◌==◌, nat_lt, ℤ, true, T}
use Rattle.std.proofs.Common.{List, [], ◌∷◌, ◌++◌, length, map, Contains, AllPairs, Some, refl, sym}
use Rattle.std.proofs.Common.{ap, subst, arith, append-nil, length-append}
use Rattle.epx_types.proofs.Common.{nat_tests, append_assoc, insert_key, is_sorted, id_cmp}
use Rattle.epx_types.proofs.Common.{IsRising, key_cmp, Contains-nil, Contains-head, Contains-cons}
use Rattle.epx_types.proofs.Common.{Contains-cons_cases, AllPairs-head, AllPairs-tail}
use Rattle.epx_types.proofs.Common.{IsRising-is_unique}
use Rattle.epx_types.specs.declared.id.Id.{Id}
use Rattle.epx_lines.proofs.EntryLemmas.{IsRising-insert, IsRising-fold}
use Rattle.epx_lines.proofs.OtherIdLemmas.{insert_key-last}
use Rattle.epx_report.specs.declared.from_value.Counts.{Counts}
use Rattle.epx_report.specs.declared.from_value.BaseLine.{BaseLine}
use Rattle.epx_report.specs.declared.from_value.BaseLine.TheVariants as line
use Rattle.epx_report.specs.Bases.{BaseParts, lines_in_order, AreBaseParts, AreDoneIn}
use Rattle.epx_report.specs.inner.Progress.{Progress, nothing_seen, after, is_complete}
use Rattle.epx_report.specs.inner.BaseReadings.{after_all}
use Rattle.epx_report.specs.inner.IdSets.{with_late}
use Rattle.epx_report.proofs.IdSetLemmas.{Contains-with_rising, Contains-with_late}
use Rattle.epx_report.proofs.IdSetLemmas.{Contains-with_cases, is_among-if_missing}
use Rattle.epx_report.proofs.RisingListLemmas.{Contains-insert_itself, Contains-insert_other}
use Rattle.epx_report.proofs.RisingListLemmas.{Contains-insert_cases, is_after_last-rising}
use Rattle.epx_report.proofs.RisingListLemmas.{is_after_last-sorted}

-- the done instances of a base can be listed
pub AreDoneIn-exists : (before replied : List Id) → IsRising before
    → (done : List Id) × AreDoneIn before replied done
AreDoneIn-exists before replied rising = (
  with_late before replied,
  record {
    rising = IsRising-fold before replied rising;
    each = λ x. (
      Contains-with_cases before replied x,
      λ h. elim h [
        | inl was ↦ Contains-with_rising before replied x was
        | inr new ↦ Contains-with_late before replied x new
      ],
    );
  },
)

-- the lines lead from s to `end`
abbrev LeadTo : Progress → List BaseLine → Progress → Type 0
LeadTo s ls end = after_all s ls ≡ Some end

leads_on : (s t end : Progress) (l : BaseLine) (ls : List BaseLine) → after s l ≡ Some t
    → LeadTo t ls end → LeadTo s (l ∷ ls) end
leads_on s t end l ls is_allowed more = rw is_allowed more

tied : (n : ℕ) → (n == n) ≡ true
tied n = grind (arith, nat_tests)

eq_with : (m n : ℕ) → m ≡ n → (m == n) ≡ true
eq_with m n e = grind (arith, nat_tests)

lower : (m n : ℕ) → m < n → nat_lt m n ≡ true
lower m n l = grind (arith, nat_tests)

-- the state after these lines
abbrev pub state : Counts → List Id → ℕ → List Id → List (List ℕ × ℤ) → Progress
state c done replies waiting stored =
    record {
      counts = Some c;
      done = done;
      replies = replies;
      waiting = waiting;
      stored = stored;
    }

module _ (c : Counts) where
  -- ---- store lines

  after-store : (done waiting : List Id) (qs : List (List ℕ × ℤ)) (p : List ℕ × ℤ)
      (ps : List (List ℕ × ℤ)) → length waiting ≡ c.waiting → T (is_sorted key_cmp (qs ++ p ∷ ps))
      → after (state c done c.executed waiting qs) (line.Store p.0 p.1)
      ≡ Some (state c done c.executed waiting (qs ++ p ∷ []))
  unfolding after
  after-store done waiting qs p ps all rises =
      rw (
        tied c.executed,
        eq_with (length waiting) c.waiting all,
        is_after_last-sorted qs p ps
            rises,
      )
      refl

  stored_lead : (done waiting : List Id) (qs ps : List (List ℕ × ℤ)) → length waiting ≡ c.waiting
      → T (is_sorted key_cmp (qs ++ ps))
      → LeadTo (state c done c.executed waiting qs) (map (λ p. line.Store p.0 p.1) ps)
      (state c done c.executed waiting (qs ++ ps))
  stored_lead done waiting qs [] all rises =
      ap (λ es. Some (state c done c.executed waiting es)) (sym (append-nil qs))
  stored_lead done waiting qs (p ∷ ps) all rises =
      let regrouped = append_assoc qs (p ∷ []) ps in
      let rest = stored_lead done waiting (qs ++ p ∷ []) ps all
      (subst (λ es. T (is_sorted key_cmp es)) (sym regrouped) rises) in
      let end : List (List ℕ × ℤ) → Progress = λ es. state c done c.executed waiting es in
      leads_on (end qs) (end (qs ++ p ∷ [])) (end (qs ++ p ∷ ps)) (line.Store p.0 p.1)
      (map (λ q. line.Store q.0 q.1) ps) (after-store done waiting qs p ps all rises)
      (subst (λ es. LeadTo (end (qs ++ p ∷ [])) (map (λ q. line.Store q.0 q.1) ps) (end es))
      regrouped rest)

  -- ---- waiting lines

  after-waiting : (done vs : List Id) (x : Id) (xs : List Id) → length vs < c.waiting
      → IsRising (vs ++ x ∷ xs) → ¬ Contains done x
      → after (state c done c.executed vs []) (line.Waiting x)
      ≡ Some (state c done c.executed (vs ++ x ∷ []) [])
  unfolding after
  after-waiting done vs x xs few rising left =
      rw (
        tied c.executed,
        lower (length vs) c.waiting few,
        is_after_last-rising vs x xs rising,
        is_among-if_missing done x left,
      ) refl

  waiting_lead : (done vs ws : List Id) (ls : List BaseLine) (end : Progress)
      → length vs + length ws ≡ c.waiting → IsRising (vs ++ ws)
      → ((x : Id) → Contains ws x → ¬ Contains done x)
      → LeadTo (state c done c.executed (vs ++ ws) []) ls end
      → LeadTo (state c done c.executed vs []) (map line.Waiting ws ++ ls) end
  waiting_lead done vs [] ls end all rising left more =
      subst (λ xs. LeadTo (state c done c.executed xs []) ls end) (append-nil vs) more
  waiting_lead done vs (w ∷ ws) ls end all rising left more =
      let regrouped = append_assoc vs (w ∷ []) ws in
      let longer : length (vs ++ w ∷ []) + length ws ≡ c.waiting =
      omega (arith, length-append vs (w ∷ []), all) in
      leads_on (state c done c.executed vs []) (state c done c.executed (vs ++ w ∷ []) []) end
      (line.Waiting w) (map line.Waiting ws ++ ls)
      (after-waiting done vs w ws (omega (arith, all)) rising (left w (Contains-head w ws)))
      (waiting_lead done (vs ++ w ∷ []) ws ls end longer (subst IsRising (sym regrouped) rising)
      (λ x h. left x (Contains-cons w ws x h))
      (subst (λ xs. LeadTo (state c done c.executed xs []) ls end) (sym regrouped) more))

  -- ---- reply lines

  after-reply : (done : List Id) (k : ℕ) (x : Id) → k < c.executed → ¬ Contains done x
      → after (state c done k [] []) (line.Reply x)
      ≡ Some (state c (insert_key id_cmp done x) (k + 1) [] [])
  unfolding after
  after-reply done k x few new = rw (lower k c.executed few, is_among-if_missing done x new) refl

  replies_lead : (before now : List Id) (k : ℕ) (rs : List Id) (ls : List BaseLine) (end : Progress)
      → k + length rs ≡ c.executed → IsRising before → AllPairs (λ x y. x ≢ y) rs
      → ((x : Id) → Contains rs x → ¬ Contains before x) → IsRising now
      → ((x : Id) → Contains now x ↔ Contains before x ⊎ Contains rs x)
      → LeadTo (state c now c.executed [] []) ls end
      → LeadTo (state c before k [] []) (map line.Reply rs ++ ls) end
  replies_lead before now k [] ls end all rising once new rising_now each more =
      let there : (x : Id) → Contains now x → Contains before x =
      λ x h. elim ((each x).0 h) [ inl was ↦ was | inr none ↦ absurd (Contains-nil x none) ] in
      let same : now ≡ before = IsRising-is_unique now before rising_now rising there
      (λ x h. (each x).1 (inl h)) in
      let counted : c.executed ≡ k = omega (arith, all) in
      subst (λ d. LeadTo (state c d k [] []) ls end) same
      (subst (λ m. LeadTo (state c now m [] []) ls end) counted more)
  replies_lead before now k (x ∷ rs) ls end all rising once new rising_now each more =
      let next = insert_key id_cmp before x in
      let new_next : (z : Id) → Contains rs z
      → ¬ Contains next z = λ z h among. elim (Contains-insert_cases before x z among) [
        | inl same ↦ AllPairs-head (λ a b. a ≢ b) x rs z once h same
        | inr was ↦ new z (Contains-cons x rs z h) was
      ] in
      let there : (z : Id) → Contains now z → Contains next z ⊎ Contains rs z =
      λ z h. elim ((each z).0 h) [
        | inl was ↦ inl (Contains-insert_other before x z was)
        | inr replied ↦ elim (Contains-cons_cases x rs z replied) [
          | inl same ↦ inl (subst (Contains next) same (Contains-insert_itself before x))
          | inr later ↦ inr later
        ]
      ] in
      let back : (z : Id) → Contains next z ⊎ Contains rs z → Contains now z = λ z h. elim h [
        | inl among ↦ elim (Contains-insert_cases before x z among) [
          | inl same ↦ (each z).1 (inr (subst (Contains (x ∷ rs)) same (Contains-head x rs)))
          | inr was ↦ (each z).1 (inl was)
        ]
        | inr later ↦ (each z).1 (inr (Contains-cons x rs z later))
      ] in
      leads_on (state c before k [] []) (state c next (k + 1) [] []) end (line.Reply x)
      (map line.Reply rs ++ ls)
      (after-reply before k x (omega (arith, all)) (new x (Contains-head x rs)))
      (replies_lead next now (k + 1) rs ls end (omega (arith, all))
      (IsRising-insert x before rising) (AllPairs-tail (λ a b. a ≢ b) x rs once)
      new_next rising_now (λ z. (there z, back z)) more)

  -- ---- done lines

  after-done : (xs : List Id) (y : Id) (ys : List Id) → IsRising (xs ++ y ∷ ys)
      → after (state c xs 0 [] []) (line.Done y) ≡ Some (state c (xs ++ y ∷ []) 0 [] [])
  unfolding after
  after-done xs y ys rising = rw (is_after_last-rising xs y ys rising)
      (ap (λ d. Some (state c d 0 [] [])) (insert_key-last xs y ys rising))

  done_lead : (xs ys : List Id) (ls : List BaseLine) (end : Progress) → IsRising (xs ++ ys)
      → LeadTo (state c (xs ++ ys) 0 [] []) ls end
      → LeadTo (state c xs 0 [] []) (map line.Done ys ++ ls) end
  done_lead xs [] ls end rising more =
      subst (λ d. LeadTo (state c d 0 [] []) ls end) (append-nil xs) more
  done_lead xs (y ∷ ys) ls end rising more =
      let regrouped = append_assoc xs (y ∷ []) ys in
      leads_on (state c xs 0 [] []) (state c (xs ++ y ∷ []) 0 [] []) end (line.Done y)
      (map line.Done ys ++ ls) (after-done xs y ys rising)
      (done_lead (xs ++ y ∷ []) ys ls end (subst IsRising (sym regrouped) rising)
      (subst (λ d. LeadTo (state c d 0 [] []) ls end) (sym regrouped) more))

  -- ---- the header

  after-header : after nothing_seen (line.Header c) ≡ Some (state c [] 0 [] [])
  unfolding after
  after-header = refl

-- ---- all lines

-- the state after the lines of a whole base
abbrev pub end_of : BaseParts → List Id → Progress
end_of p done = state p.counts done p.counts.executed p.waiting p.stored

pub after_all-whole : (p : BaseParts) (done : List Id) → AreBaseParts p
    → AreDoneIn p.done p.replied done
    → after_all nothing_seen (lines_in_order p) ≡ Some (end_of p done)
after_all-whole p done h those =
    let c = p.counts in
    let rises : T (is_sorted key_cmp p.stored) = subst T (sym h.stored_rise) tt in
    let left : (x : Id) → Contains p.waiting x → ¬ Contains done x =
    λ x waits among. elim ((those.each x).0 among) [
      | inl was ↦ (h.distinct.waiting_left x waits).0 was
      | inr replied ↦ (h.distinct.waiting_left x waits).1 replied
    ] in
    let end = end_of p done in
    let from_stored = stored_lead c done p.waiting [] p.stored h.waiting_counted rises in
    let from_waiting = waiting_lead c done [] p.waiting _ end (omega (arith, h.waiting_counted))
    h.distinct.waiting_rise left from_stored in
    let from_replies = replies_lead c p.done done 0 p.replied _ end
    (omega (arith, h.replies_counted)) h.distinct.done_rise h.distinct.replied_once
    h.distinct.replied_new those.rising those.each from_waiting in
    let from_done = done_lead c [] p.done _ end h.distinct.done_rise from_replies in
    leads_on nothing_seen (state c [] 0 [] []) end (line.Header c) _ (after-header c) from_done

pub is_complete-end_of : (p : BaseParts) (done : List Id) → AreBaseParts p
    → is_complete (end_of p done) ≡ true
is_complete-end_of p done h =
    rw (tied p.counts.executed, eq_with (length p.waiting) p.counts.waiting h.waiting_counted) refl
