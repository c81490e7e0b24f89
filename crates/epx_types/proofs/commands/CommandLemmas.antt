-- What a command changes, and on what its reply and its writes depend.
use Rattle.std.proofs.Common.{◌+◌, ◌<◌, length, take, arith, ◌≡◌, ◌⊎◌, ◌≢◌, ℕ, suc, ℤ, pos, ◌+ℤ◌}
use Rattle.std.proofs.Common.{int_lt, Bool, true, false, List, [], ◌∷◌, ◌++◌, map, flat_map}
use Rattle.std.proofs.Common.{Contains, Option, Some, None, unwrap_or, if◌then◌else◌, refl, sym}
use Rattle.std.proofs.Common.{ap, ap₂, ◌∙◌, subst, inl, inr}
use Rattle.std.specs.FinMap as contents
use Rattle.std.proofs.lemmas.List.Elements.{Contains-append_left, Contains-append_right}
use Rattle.epx_types.specs.declared.op.Op.{Op}
use Rattle.epx_types.specs.declared.op.Op.TheVariants.{Get, Put, Del, Add, Is, Floor, Copy}
use Rattle.epx_types.specs.declared.reply.Reply.{Reply}
use Rattle.epx_types.specs.declared.reply.Reply.TheVariants.{Values, Abort}
use Rattle.epx_types.specs.Contents.{Contents, assign, AgreeOn, amount_at}
use Rattle.epx_types.specs.Operations.{fits_i64, same_value, operate}
use Rattle.epx_types.specs.Commands.{Outcome, unless_aborted, operate_all, command_on}
use Rattle.epx_types.specs.CommandKeys.{touched_by, written_by, touched_keys, written_keys}
use Rattle.epx_types.specs.Keys.{KeyBelow}
use Rattle.epx_types.specs.Writes.{Write, writes_by, writes_of, apply_writes, HasDistinctKeys}
use Rattle.epx_types.proofs.lists.MembershipLemmas.{Contains-nil, Contains-head, Contains-cons}
use Rattle.epx_types.proofs.lists.MembershipLemmas.{Contains-from_map, map-agree}
use Rattle.epx_types.proofs.lists.ListPositionLemmas.{AllPairs-slice_get, AllPairs-from_slice_get}
use Rattle.epx_types.proofs.lists.ListPositionLemmas.{slice_get-from_map}
use Rattle.epx_types.proofs.lists.TotalOrderLemmas.{is_lt-irrefl}
use Rattle.epx_types.proofs.keys.KeyListLemmas.{key_cmp-IsTotalOrder, AllPairs-rising_keys}
use Rattle.epx_types.proofs.keys.KeyListLemmas.{Contains-rising_keys, Contains-from_rising_keys}
use Rattle.epx_types.proofs.keys.KeyListLemmas.{Contains-flat_map_within}
use Rattle.epx_types.proofs.commands.ContentsLemmas.{Contents-extensional, get-assign_cases}
use Rattle.epx_types.proofs.commands.ContentsLemmas.{get-assign_agree, get-apply_writes}

-- ---- what a command writes

-- unless the operation aborts, all keys outside the list keep their values
abbrev ChangesOnly : List (List ℕ) → Contents → Option (Contents × List (Option ℤ)) → Type 0
ChangesOnly keys c None = Unit {0}
ChangesOnly keys c (Some r) = (q : List ℕ)
    → Contains keys q ⊎ (contents.get r.0 q ≡ contents.get c q)

assign-ChangesOnly : (c : Contents) (k : List ℕ) (v : Option ℤ) (q : List ℕ)
    → Contains (k ∷ []) q ⊎ (contents.get (assign c k v) q ≡ contents.get c q)
assign-ChangesOnly c k v q =
    elim (get-assign_cases c k v q) [
      | inl here ↦ inl (subst (Contains (k ∷ [])) (sym here.0) (Contains-head k []))
      | inr other ↦ inr other.1
    ]

operate-ChangesOnly : (op : Op) (c : Contents) → ChangesOnly (written_by op) c (operate op c)
operate-ChangesOnly (Get k) c = λ q. inr refl
operate-ChangesOnly (Put k v) c = assign-ChangesOnly c k (Some v)
operate-ChangesOnly (Del k) c = assign-ChangesOnly c k None
operate-ChangesOnly (Add k n) c =
    elim (fits_i64 (amount_at c k +ℤ n)) as (λ b. ChangesOnly (k ∷ []) c
    (if b then Some (assign c k (Some (amount_at c k +ℤ n)), []) else None)) [
      | true ↦ assign-ChangesOnly c k (Some (amount_at c k +ℤ n))
      | false ↦ tt
    ]
operate-ChangesOnly (Is k v) c =
    elim (same_value (contents.get c k) v) as (λ b.
    ChangesOnly [] c (if b then Some (c, []) else None)) [ true ↦ λ q. inr refl | false ↦ tt ]
operate-ChangesOnly (Floor k least) c =
    elim (int_lt (amount_at c k) least) as (λ b.
    ChangesOnly [] c (if b then None else Some (c, []))) [ true ↦ tt | false ↦ λ q. inr refl ]
operate-ChangesOnly (Copy k j) c = assign-ChangesOnly c j (contents.get c k)

-- after an abort the contents are those before; otherwise all keys outside the list keep their
-- values
abbrev EndsChangingOnly : List (List ℕ) → Contents → Contents → Reply → Contents → Type 0
EndsChangingOnly keys before c (Values got) after = (q : List ℕ)
    → Contains keys q ⊎ (contents.get after q ≡ contents.get c q)
EndsChangingOnly keys before c (Abort j) after = after ≡ before

-- one more operation at the front
EndsChangingOnly-cons : (first rest : List (List ℕ)) (before c d : Contents) (reply : Reply)
    (after : Contents) → ((q : List ℕ) → Contains first q ⊎ (contents.get d q ≡ contents.get c q))
    → EndsChangingOnly rest before d reply after
    → EndsChangingOnly (first ++ rest) before c reply after
EndsChangingOnly-cons first rest before c d (Values got) after step on = λ q.
    elim (on q) [
      | inl later ↦ inl (Contains-append_right first rest q later)
      | inr kept ↦ elim (step q) [
        | inl now ↦ inl (Contains-append_left first rest q now)
        | inr same ↦ inr (kept ∙ same)
      ]
    ]
EndsChangingOnly-cons first rest before c d (Abort j) after step on = on

operate_all-EndsChangingOnly : (before : Contents) (j : ℕ) (ops : List Op) (c : Contents)
    (got : List (Option ℤ)) → EndsChangingOnly (flat_map written_by ops) before c
    (operate_all before j ops c got).reply (operate_all before j ops c got).after
operate_all-EndsChangingOnly before j [] c got = λ q. inr refl
operate_all-EndsChangingOnly before j (op ∷ ops) c got =
    let end : Option (Contents × List (Option ℤ)) → Outcome =
    λ o. unless_aborted before j o (λ r. operate_all before (suc j) ops r.0 (got ++ r.1)) in
    elim (operate op c) as (λ o. ChangesOnly (written_by op) c o
    → EndsChangingOnly (flat_map written_by (op ∷ ops)) before c (end o).reply (end o).after) [
      | None ↦ λ keeps. refl
      | Some r ↦ λ keeps. EndsChangingOnly-cons (written_by op) (flat_map written_by ops) before c
          r.0 (end (Some r)).reply (end (Some r)).after keeps
          (operate_all-EndsChangingOnly before (suc j) ops r.0 (got ++ r.1))
    ] (operate-ChangesOnly op c)

command_on-EndsChangingOnly : (ops : List Op) (c : Contents)
    → EndsChangingOnly (flat_map written_by ops) c c (command_on ops c).reply
    (command_on ops c).after
command_on-EndsChangingOnly ops c = operate_all-EndsChangingOnly c 0 ops c []

-- a key is written, or keeps its value
pub written_keys-or_same : (ops : List Op) (c : Contents) (q : List ℕ)
    → Contains (written_keys ops) q ⊎ (contents.get (command_on ops c).after q ≡ contents.get c q)
written_keys-or_same ops c q = by (command_on ops c).reply (command_on ops c).after
    (command_on-EndsChangingOnly ops c) where
      by : (reply : Reply) (after : Contents)
          → EndsChangingOnly (flat_map written_by ops) c c reply after
          → Contains (written_keys ops) q ⊎ (contents.get after q ≡ contents.get c q)
      by (Values got) after settles =
          elim (settles q) [
            | inl written ↦ inl (Contains-rising_keys (flat_map written_by ops) q written)
            | inr kept ↦ inr kept
          ]
      by (Abort j) after settles = inr (ap (λ d. contents.get d q) settles)

-- an aborted command leaves the contents unchanged
pub after-abort : (ops : List Op) (c : Contents) (j : ℕ) → (command_on ops c).reply ≡ Abort j
    → (command_on ops c).after ≡ c
after-abort ops c j e =
    let P : Reply → Type 0 = λ r. EndsChangingOnly (flat_map written_by ops) c c r
    (command_on ops c).after in
    subst P e (command_on-EndsChangingOnly ops c)

-- and writes nothing
pub writes_of-abort : (ops : List Op) (c : Contents) (j : ℕ) → (command_on ops c).reply ≡ Abort j
    → writes_of ops c ≡ []
writes_of-abort ops c j e = ap (λ r. writes_by r ops (command_on ops c).after) e

-- the contents after a command are those before it with its writes applied
pub apply_writes-writes_of : (ops : List Op) (c : Contents)
    → apply_writes (writes_of ops c) c ≡ (command_on ops c).after
apply_writes-writes_of ops c =
    by (command_on ops c).reply (command_on ops c).after (command_on-EndsChangingOnly ops c) where
      by : (reply : Reply) (after : Contents)
          → EndsChangingOnly (flat_map written_by ops) c c reply after
          → apply_writes (writes_by reply ops after) c ≡ after
      by (Abort j) after settles = sym settles
      by (Values got) after settles =
          Contents-extensional _ _
          (λ q. get-apply_writes (written_keys ops) after c q (elim (settles q) [
            | inl written ↦ inl (Contains-rising_keys (flat_map written_by ops) q written)
            | inr kept ↦ inr (sym kept)
          ]))

-- the keys of the writes are written keys
pub writes_of-written : (ops : List Op) (c : Contents) (w : List ℕ × Option ℤ)
    → Contains (writes_of ops c) w → Contains (written_keys ops) w.0
writes_of-written ops c w = by (command_on ops c).reply (command_on ops c).after where
  by : (reply : Reply) (after : Contents) → Contains (writes_by reply ops after) w
      → Contains (written_keys ops) w.0
  by (Abort j) after h = absurd (Contains-nil w h)
  by (Values got) after h =
      let from = Contains-from_map (λ k. (k, contents.get after k)) (written_keys ops) w h in
      subst (Contains (written_keys ops)) (ap (λ p. p.0) from.2) from.1

-- and each key once
pub writes_of-distinct : (ops : List Op) (c : Contents) → HasDistinctKeys (writes_of ops c)
writes_of-distinct ops c = by (command_on ops c).reply (command_on ops c).after where
  by : (reply : Reply) (after : Contents) → HasDistinctKeys (writes_by reply ops after)
  by (Abort j) after = λ i k d l h. absurd (omega arith)
  by (Values got) after =
      let write : List ℕ → Write = λ k. (k, contents.get after k) in
      AllPairs-from_slice_get (λ v w. v.0 ≢ w.0) (map write (written_keys ops)) (λ i k v w l p q e.
      let a = slice_get-from_map write (written_keys ops) i v p in
      let b = slice_get-from_map write (written_keys ops) k w q in
      let same : a.0 ≡ b.0 = ap (λ x. x.0) a.2 ∙ e ∙ sym (ap (λ x. x.0) b.2) in
      let lower = AllPairs-slice_get KeyBelow (written_keys ops)
      (AllPairs-rising_keys (flat_map written_by ops)) i k a.0 b.0 l a.1 b.1 in
      is_lt-irrefl key_cmp-IsTotalOrder a.0 (subst (KeyBelow a.0) (sym same) lower))

-- ---- where a command aborts

-- the operations before the one that aborts succeed
operate_all-abort : (before : Contents) (j : ℕ) (ops : List Op) (c : Contents)
    (got : List (Option ℤ)) (k : ℕ) → (operate_all before j ops c got).reply ≡ Abort k
    → (i : ℕ) × (k ≡ j + i) × (i < length ops)
    × ((reads : List (Option ℤ))
    × ((operate_all before j (take i ops) c got).reply ≡ Values reads))
operate_all-abort before j [] c got k e = absurd (cc e)
operate_all-abort before j (op ∷ ops) c got k e =
    let end : Option (Contents × List (Option ℤ)) → Outcome =
    λ o. unless_aborted before j o (λ r. operate_all before (suc j) ops r.0 (got ++ r.1)) in
    elim (operate op c) as (λ o. operate op c ≡ o → (end o).reply ≡ Abort k
    → (i : ℕ) × (k ≡ j + i) × (i < suc (length ops))
    × ((reads : List (Option ℤ))
    × ((operate_all before j (take i (op ∷ ops)) c got).reply ≡ Values reads))) [
      | None ↦ λ is aborted. let index : j ≡ k = cc aborted in
          (0, omega arith, omega arith, (got, refl))
      | Some r ↦ λ is aborted.
          let rest = operate_all-abort before (suc j) ops r.0 (got ++ r.1) k aborted in
          (suc rest.0, omega (arith, rest.1), omega (arith, rest.2), (rest.3.0, rw is rest.3.1))
    ] refl e

-- an abort names the index of an operation, and the operations before it succeed
pub reply-abort : (ops : List Op) (c : Contents) (j : ℕ) → (command_on ops c).reply ≡ Abort j
    → (j < length ops)
    × ((reads : List (Option ℤ)) × ((command_on (take j ops) c).reply ≡ Values reads))
reply-abort ops c j e =
    let at = operate_all-abort c 0 ops c [] j e in
    let index : at.0 ≡ j = omega (arith, at.1) in
    let P : ℕ → Type 0 = λ i. (i < length ops)
    × ((reads : List (Option ℤ))
    × ((operate_all c 0 (take i ops) c []).reply ≡ Values reads)) in
    subst P index (at.2, at.3)

-- ---- on what a reply depends

-- both abort, or both read the same and leave the same value under each of the keys
abbrev Alike : List (List ℕ) → Option (Contents × List (Option ℤ))
    → Option (Contents × List (Option ℤ)) → Type 0
Alike keys None None = Unit {0}
Alike keys None (Some s) = ⊥
Alike keys (Some r) None = ⊥
Alike keys (Some r) (Some s) = (r.1 ≡ s.1) × AgreeOn keys r.0 s.0

-- by one test, after which the operation succeeds if the test holds
Alike-where : (keys : List (List ℕ)) (t u : Bool) (r s : Contents × List (Option ℤ)) → t ≡ u
    → Alike keys (Some r) (Some s)
    → Alike keys (if t then Some r else None) (if u then Some s else None)
Alike-where keys true true r s e alike = alike
Alike-where keys true false r s e alike = absurd (cc e)
Alike-where keys false true r s e alike = absurd (cc e)
Alike-where keys false false r s e alike = tt

-- by one test, after which the operation aborts if the test holds
Alike-unless : (keys : List (List ℕ)) (t u : Bool) (r s : Contents × List (Option ℤ)) → t ≡ u
    → Alike keys (Some r) (Some s)
    → Alike keys (if t then None else Some r) (if u then None else Some s)
Alike-unless keys true true r s e alike = tt
Alike-unless keys true false r s e alike = absurd (cc e)
Alike-unless keys false true r s e alike = absurd (cc e)
Alike-unless keys false false r s e alike = alike

-- over contents that agree on the keys that it touches, an operation has the same effect
operate-Alike : (keys : List (List ℕ)) (c d : Contents) → AgreeOn keys c d → (op : Op)
    → ((k : List ℕ) → Contains (touched_by op) k → Contains keys k)
    → Alike keys (operate op c) (operate op d)
operate-Alike keys c d agree (Get k) within =
    (ap (λ v. v ∷ []) (agree k (within k (Contains-head k []))), agree)
operate-Alike keys c d agree (Put k v) within =
    (refl, λ q h. get-assign_agree c d k (Some v) q (agree q h))
operate-Alike keys c d agree (Del k) within =
    (refl, λ q h. get-assign_agree c d k None q (agree q h))
operate-Alike keys c d agree (Add k n) within =
    let same : amount_at c k +ℤ n ≡ amount_at d k +ℤ n =
    ap (λ v. unwrap_or v (pos 0) +ℤ n) (agree k (within k (Contains-head k []))) in
    Alike-where keys (fits_i64 (amount_at c k +ℤ n)) (fits_i64 (amount_at d k +ℤ n))
    (assign c k (Some (amount_at c k +ℤ n)), []) (assign d k (Some (amount_at d k +ℤ n)), [])
    (ap fits_i64 same) (
      refl,
      λ q h. get-assign_agree c d k (Some (amount_at c k +ℤ n)) q (agree q h)
          ∙ ap (λ a. contents.get (assign d k (Some a)) q) same,
    )
operate-Alike keys c d agree (Is k v) within =
    Alike-where keys (same_value (contents.get c k) v) (same_value (contents.get d k) v) (c, [])
    (d, []) (ap (λ w. same_value w v) (agree k (within k (Contains-head k [])))) (refl, agree)
operate-Alike keys c d agree (Floor k least) within =
    Alike-unless keys (int_lt (amount_at c k) least) (int_lt (amount_at d k) least) (c, []) (d, [])
    (ap (λ v. int_lt (unwrap_or v (pos 0)) least) (agree k (within k (Contains-head k []))))
    (refl, agree)
operate-Alike keys c d agree (Copy k j) within =
    let same = agree k (within k (Contains-head k (j ∷ []))) in (
      refl,
      λ q h. get-assign_agree c d j (contents.get c k) q (agree q h)
          ∙ ap (λ v. contents.get (assign d j v) q) same,
    )

-- two outcomes have the same reply, and leave the same value under each of the keys
abbrev pub HasSameOutcome : List (List ℕ) → Outcome → Outcome → Type 0
HasSameOutcome keys o p = (o.reply ≡ p.reply) × AgreeOn keys o.after p.after

unless_aborted-HasSameOutcome : (keys : List (List ℕ)) (before before' : Contents)
    → AgreeOn keys before before'
    → (j : ℕ) (o p : Option (Contents × List (Option ℤ)))
    (proceed proceed' : Contents × List (Option ℤ) → Outcome) → Alike keys o p
    → ((r s : Contents × List (Option ℤ)) → Alike keys (Some r) (Some s)
    → HasSameOutcome keys (proceed r) (proceed' s))
    → HasSameOutcome keys (unless_aborted before j o proceed) (unless_aborted before' j p proceed')
unless_aborted-HasSameOutcome keys before before' began j None None proceed proceed' alike on =
    (refl, began)
unless_aborted-HasSameOutcome keys before before' began j None (Some s) proceed proceed' alike on =
    absurd alike
unless_aborted-HasSameOutcome keys before before' began j (Some r) None proceed proceed' alike on =
    absurd alike
unless_aborted-HasSameOutcome keys before before' began j (Some r) (Some s) proceed proceed' alike
    on = on r s alike

operate_all-HasSameOutcome : (keys : List (List ℕ)) (before before' : Contents)
    → AgreeOn keys before before'
    → (j : ℕ) (ops : List Op) (c d : Contents) (got got' : List (Option ℤ))
    → ((k : List ℕ) → Contains (flat_map touched_by ops) k → Contains keys k) → AgreeOn keys c d
    → got ≡ got' → HasSameOutcome keys (operate_all before j ops c got)
    (operate_all before' j ops d got')
operate_all-HasSameOutcome keys before before' began j [] c d got got' within agree read =
    (ap (λ v. Values v) read, agree)
operate_all-HasSameOutcome keys before before' began j (op ∷ ops) c d got got' within agree read =
    unless_aborted-HasSameOutcome keys before before' began j (operate op c) (operate op d)
    (λ r. operate_all before (suc j) ops r.0 (got ++ r.1))
    (λ r. operate_all before' (suc j) ops r.0 (got' ++ r.1))
    (operate-Alike keys c d agree op
    (λ k h. within k (Contains-append_left (touched_by op) (flat_map touched_by ops) k h)))
    (λ r s alike. operate_all-HasSameOutcome keys before before' began (suc j) ops r.0 s.0
    (got ++ r.1) (got' ++ s.1)
    (λ k h. within k (Contains-append_right (touched_by op) (flat_map touched_by ops) k h))
    alike.1 (ap₂ (λ v w. v ++ w) read alike.0))

-- a written key is touched
pub written_keys-touched : (ops : List Op) (k : List ℕ) → Contains (written_keys ops) k
    → Contains (touched_keys ops) k
written_keys-touched ops k h =
    Contains-rising_keys (flat_map touched_by ops) k
    (Contains-flat_map_within written_by touched_by by ops k
    (Contains-from_rising_keys (flat_map written_by ops) k h))
  where
    by : (op : Op) (q : List ℕ) → Contains (written_by op) q → Contains (touched_by op) q
    by (Get key) q h = absurd (Contains-nil q h)
    by (Put key v) q h = h
    by (Del key) q h = h
    by (Add key n) q h = h
    by (Is key v) q h = absurd (Contains-nil q h)
    by (Floor key least) q h = absurd (Contains-nil q h)
    by (Copy key j) q h = Contains-cons key (j ∷ []) q h

-- over contents that agree on the touched keys, a command leaves contents that agree on them and
-- has the same reply
pub command_on-HasSameOutcome : (ops : List Op) (c d : Contents) → AgreeOn (touched_keys ops) c d
    → HasSameOutcome (touched_keys ops) (command_on ops c) (command_on ops d)
command_on-HasSameOutcome ops c d agree =
    operate_all-HasSameOutcome (touched_keys ops) c d agree 0 ops c d [] []
    (Contains-rising_keys (flat_map touched_by ops)) agree refl

-- and it has the same writes
pub writes_of-alike : (ops : List Op) (c d : Contents) → AgreeOn (touched_keys ops) c d
    → writes_of ops c ≡ writes_of ops d
writes_of-alike ops c d agree =
    let alike = command_on-HasSameOutcome ops c d agree in
    ap (λ r. writes_by r ops (command_on ops c).after) alike.0
    ∙ by (command_on ops d).reply (command_on ops c).after (command_on ops d).after alike.1
  where
    by : (reply : Reply) (after after' : Contents) → AgreeOn (touched_keys ops) after after'
        → writes_by reply ops after ≡ writes_by reply ops after'
    by (Abort j) after after' same = refl
    by (Values got) after after' same =
        map-agree (λ k. (k, contents.get after k)) (λ k. (k, contents.get after' k))
        (written_keys ops) (λ k h. ap (λ v. (k, v)) (same k (written_keys-touched ops k h)))
