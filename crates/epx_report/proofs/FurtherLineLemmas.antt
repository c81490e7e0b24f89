-- The first lines of a base can be gone on with: there are always further Ids.
use Rattle.std.proofs.Common.{◌≡◌, ◌≢◌, ◌⊎◌, inl, inr, ℕ, zero, suc, ◌+◌, ◌-◌, ◌<◌, ◌≤◌, List, []}
use Rattle.std.proofs.Common.{◌∷◌, ◌++◌, length, map, Contains, AllPairs, is_lt, Less, refl, sym}
use Rattle.std.proofs.Common.{ap, ◌∙◌, subst, arith, append-nil, append_assoc, length-append}
use Rattle.epx_types.proofs.Common.{Contains-append_cases, nat_cmp, ordering_then, nat_cmp_is}
use Rattle.epx_types.proofs.Common.{nat_cmp_total, Below, IsRising, Contains-nil}
use Rattle.epx_types.proofs.Common.{Contains-cons_cases, AllPairs-append, AllPairs-from_parts}
use Rattle.epx_types.proofs.Common.{AllPairs-head, AllPairs-tail, id_cmp-IsTotalOrder, is_lt-irrefl}
use Rattle.epx_types.proofs.Common.{AllPairs-from_IsRising, BelowAll-from_each}
use Rattle.epx_types.proofs.Common.{IsRising-from_AllPairs}
use Rattle.epx_types.specs.declared.id.Id.{Id}
use Rattle.std.specs.Cmp.{tied_itself}
use Rattle.epx_report.specs.declared.from_value.BaseLine.{BaseLine}
use Rattle.epx_report.specs.declared.from_value.BaseLine.TheVariants as line
use Rattle.epx_report.specs.Bases.{BaseParts, lines_in_order, AreBaseParts}
use Rattle.epx_report.proofs.BegunBaseLemmas.{IsBegun}
use Rattle.epx_report.proofs.LineOrderLemmas.{lines-replies, lines-waiting}
use Rattle.epx_report.proofs.RisingListLemmas.{T-true}

-- ---- further Ids

abbrev id_at : ℕ → ℕ → Id
id_at r n = record { replica = r; number = n }

-- Ids of replica r, from number n on
abbrev ids_from : ℕ → ℕ → ℕ → List Id
ids_from r n zero = []
ids_from r n (suc k) = id_at r n ∷ ids_from r (suc n) k

length-ids_from : (r n k : ℕ) → length (ids_from r n k) ≡ k
length-ids_from r n zero = refl
length-ids_from r n (suc k) = ap suc (length-ids_from r (suc n) k)

ids_are_from : (r n k : ℕ) (x : Id) → Contains (ids_from r n k) x
    → (x.replica ≡ r) × (n ≤ x.number)
ids_are_from r n zero x h = absurd (Contains-nil x h)
ids_are_from r n (suc k) x h =
    elim (Contains-cons_cases _ (ids_from r (suc n) k) x h) [
      | inl same ↦ (
        sym (ap (λ (y : Id). y.replica) same),
        let here : n ≡ x.number = ap (λ (y : Id). y.number) same in omega (arith, here),
      )
      | inr rest ↦
          let more = ids_are_from r (suc n) k x rest in (more.0, omega (arith, more.1))
    ]

less : (m n : ℕ) → m < n → nat_cmp m n ≡ Less
less m n l = sym (nat_cmp_is m n Less l)

Below-replica : (x y : Id) → x.replica < y.replica → Below x y
Below-replica x y l = ap (λ o. is_lt (ordering_then o (nat_cmp x.number y.number)))
    (less x.replica y.replica l)

Below-number : (x y : Id) → x.replica ≡ y.replica → x.number < y.number → Below x y
Below-number x y same l =
    ap (λ r. is_lt (ordering_then (nat_cmp x.replica r) (nat_cmp x.number y.number))) (sym same)
    ∙ ap (λ o. is_lt (ordering_then o (nat_cmp x.number y.number)))
    (tied_itself nat_cmp_total x.replica)
    ∙ ap is_lt (less x.number y.number l)

IsRising-ids_from : (r n k : ℕ) → IsRising (ids_from r n k)
IsRising-ids_from r n zero = tt
IsRising-ids_from r n (suc k) = (
  BelowAll-from_each (id_at r n) (ids_from r (suc n) k)
      (λ y h. let from = ids_are_from r (suc n) k y h in
      Below-number (id_at r n) y (sym from.0) (omega (arith, from.1))),
  IsRising-ids_from r (suc n) k,
)

once : (xs : List Id) → AllPairs Below xs → AllPairs (λ x y. x ≢ y) xs
once [] h = λ i j d k l. absurd (omega arith)
once (x ∷ xs) h =
    AllPairs-from_parts (λ y z. y ≢ z) x xs
    (λ y k e. is_lt-irrefl id_cmp-IsTotalOrder x
    (subst (Below x) (sym e) (AllPairs-head Below x xs y h k)))
    (once xs (AllPairs-tail Below x xs h))

-- a replica above those of all Ids
abbrev past : List Id → ℕ
past [] = 0
past (x ∷ xs) = suc (x.replica + past xs)

below_past : (xs : List Id) (x : Id) → Contains xs x → x.replica < past xs
below_past [] x h = absurd (Contains-nil x h)
below_past (y ∷ xs) x h =
    elim (Contains-cons_cases y xs x h) [
      | inl same ↦
          let here : y.replica ≡ x.replica = ap (λ (z : Id). z.replica) same in
          omega (arith, here)
      | inr rest ↦ let more = below_past xs x rest in omega (arith, more)
    ]

-- an Id of a further replica is not among the others
is_further : (xs : List Id) (r n k : ℕ) (x : Id) → past xs ≤ r → Contains (ids_from r n k) x
    → ¬ Contains xs x
is_further xs r n k x l h among =
    let from = ids_are_from r n k x h in
    let low = below_past xs x among in
    omega (arith, from.0, low, l)

-- ---- all replies

module _ (p : BaseParts) (h : IsBegun p) (few : length p.replied < p.counts.executed) where
  none_waits : p.waiting ≡ []
  none_waits = elim h.waiting_later [ inl none ↦ none | inr all ↦ absurd (omega arith) ]

  none_stored : p.stored ≡ []
  none_stored = elim h.stored_later [ inl none ↦ none | inr all ↦ absurd (omega (arith, all.0)) ]

  abbrev replica : ℕ
  replica = past p.done + past p.replied

  abbrev further : List Id
  further = ids_from replica 0 (p.counts.executed - length p.replied)

  abbrev with_replies : BaseParts
  with_replies = record p { replied = p.replied ++ further }

  all_there : length (p.replied ++ further) ≡ p.counts.executed
  all_there = omega (
    arith,
    length-append p.replied further,
    length-ids_from replica 0 (p.counts.executed - length p.replied),
    few,
  )

  not_done : (x : Id) → Contains further x → ¬ Contains p.done x
  not_done x k = is_further p.done replica 0 (p.counts.executed - length p.replied) x
      (omega arith) k

  not_replied : (x : Id) → Contains further x → ¬ Contains p.replied x
  not_replied x k = is_further p.replied replica 0 (p.counts.executed - length p.replied) x
      (omega arith) k

  nobody_waits : (x : Id) → ¬ Contains p.waiting x
  nobody_waits x k = Contains-nil x (subst (λ xs. Contains xs x) none_waits k)

  begun_with : IsBegun with_replies
  begun_with = record {
    distinct = record {
      done_rise = h.distinct.done_rise;
      replied_once = AllPairs-append (λ x y. x ≢ y) p.replied further h.distinct.replied_once
          (once further (AllPairs-from_IsRising further
          (IsRising-ids_from replica 0 (p.counts.executed - length p.replied))))
          (λ x y k l e. not_replied y l (subst (Contains p.replied) e k));
      replied_new = λ x k. elim (Contains-append_cases p.replied further x k)
          [ inl was ↦ h.distinct.replied_new x was | inr new ↦ not_done x new ];
      waiting_rise = h.distinct.waiting_rise;
      waiting_left = λ x k. absurd (nobody_waits x k);
    };
    stored_rise = h.stored_rise;
    few_replies = omega (arith, all_there);
    few_waiting = h.few_waiting;
    waiting_later = inl none_waits;
    stored_later = inl none_stored;
  }

replies_follow : (p : BaseParts) → IsBegun p
    → (q : BaseParts) × (more : List BaseLine) × (lines_in_order q ≡ lines_in_order p ++ more)
    × IsBegun q × (length q.replied ≡ q.counts.executed)
replies_follow p h =
    elim (cases (length p.replied) p.counts.executed h.few_replies) [
      | inl few ↦ (
        with_replies p h few,
        map line.Reply (further p h few),
        lines-replies p.counts p.done p.replied (further p h few) p.waiting p.stored
            (none_waits p h few) (none_stored p h few),
        begun_with p h few,
        all_there p h few,
      )
      | inr all ↦ (p, [], sym (append-nil (lines_in_order p)), h, all)
    ]
  where
    cases : (m n : ℕ) → m ≤ n → (m < n) ⊎ (m ≡ n)
    cases m n l = grind arith

-- ---- all waiting lines

module _ (p : BaseParts) (h : IsBegun p) (all : length p.replied ≡ p.counts.executed)
    (few : length p.waiting < p.counts.waiting) where
  nothing_stored : p.stored ≡ []
  nothing_stored =
      elim h.stored_later [ inl none ↦ none | inr whole ↦ absurd (omega (arith, whole.1)) ]

  abbrev next_replica : ℕ
  next_replica = past p.done + past p.replied + past p.waiting

  abbrev waiters : List Id
  waiters = ids_from next_replica 0 (p.counts.waiting - length p.waiting)

  abbrev with_waiting : BaseParts
  with_waiting = record p { waiting = p.waiting ++ waiters }

  above : (x y : Id) → Contains p.waiting x → Contains waiters y → Below x y
  above x y k l =
      let low = below_past p.waiting x k in
      let high = ids_are_from next_replica 0 (p.counts.waiting - length p.waiting) y l in
      Below-replica x y (omega (arith, low, high.0))

  whole_with : AreBaseParts with_waiting
  whole_with = record {
    distinct = record {
      done_rise = h.distinct.done_rise;
      replied_once = h.distinct.replied_once;
      replied_new = h.distinct.replied_new;
      waiting_rise = IsRising-from_AllPairs (p.waiting ++ waiters)
          (AllPairs-append Below p.waiting waiters
          (AllPairs-from_IsRising p.waiting h.distinct.waiting_rise)
          (AllPairs-from_IsRising waiters
          (IsRising-ids_from next_replica 0 (p.counts.waiting - length p.waiting))) above);
      waiting_left = λ x k. elim (Contains-append_cases p.waiting waiters x k) [
        | inl was ↦ h.distinct.waiting_left x was
        | inr new ↦ (
          is_further p.done next_replica 0 (p.counts.waiting - length p.waiting) x (omega arith)
              new,
          is_further p.replied next_replica 0 (p.counts.waiting - length p.waiting) x
              (omega arith) new,
        )
      ];
    };
    stored_rise = T-true _ h.stored_rise;
    replies_counted = all;
    waiting_counted = omega (
      arith,
      length-append p.waiting waiters,
      length-ids_from next_replica 0 (p.counts.waiting - length p.waiting),
      few,
    );
  }

-- all replies and all waiting lines are there
pub AreBaseParts-if_counted : (p : BaseParts) → IsBegun p → length p.replied ≡ p.counts.executed
    → length p.waiting ≡ p.counts.waiting → AreBaseParts p
AreBaseParts-if_counted p h all whole = record {
  distinct = h.distinct;
  stored_rise = T-true _ h.stored_rise;
  replies_counted = all;
  waiting_counted = whole;
}

waiting_follow : (p : BaseParts) → IsBegun p → length p.replied ≡ p.counts.executed
    → (q : BaseParts) × (more : List BaseLine) × (lines_in_order q ≡ lines_in_order p ++ more)
    × AreBaseParts q
waiting_follow p h all =
    elim (cases (length p.waiting) p.counts.waiting h.few_waiting) [
      | inl few ↦ (
        with_waiting p h all few,
        map line.Waiting (waiters p h all few),
        lines-waiting p.counts p.done p.replied p.waiting (waiters p h all few) p.stored
            (nothing_stored p h all few),
        whole_with p h all few,
      )
      | inr whole ↦ (
        p,
        [],
        sym (append-nil (lines_in_order p)),
        AreBaseParts-if_counted p h all whole,
      )
    ]
  where
    cases : (m n : ℕ) → m ≤ n → (m < n) ⊎ (m ≡ n)
    cases m n l = grind arith

-- further lines make the first lines of a base whole
pub AreBaseParts-exists : (p : BaseParts) → IsBegun p
    → (q : BaseParts) × (more : List BaseLine) × (lines_in_order p ++ more ≡ lines_in_order q)
    × AreBaseParts q
AreBaseParts-exists p h =
    let replies = replies_follow p h in
    let waiting = waiting_follow replies.0 replies.3 replies.4 in (
      waiting.0,
      replies.1 ++ waiting.1,
      sym (append_assoc (lines_in_order p) replies.1 waiting.1)
          ∙ ap (λ ls. ls ++ waiting.1) (sym replies.2) ∙ sym waiting.2,
      waiting.3,
    )
