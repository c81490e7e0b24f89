-- The sources that share a doubtful key with each node, touch by touch.
use Rattle.std.proofs.Common.{◌≡◌, ◌⊎◌, inl, inr, ℕ, ◌+◌, ◌<◌, List, Bool, true, false, cond}
use Rattle.std.proofs.Common.{length, get_or, set, bit_or, Contains, IsTrue, IsFalse, refl, sym}
use Rattle.std.proofs.Common.{subst, ◌∙◌, arith}
use Rattle.epx_types.proofs.Common.{cases_Bool, cases_lt, false≢true, get_or_default}
use Rattle.epx_types.proofs.Common.{Contains-get_or}
use Rattle.epx_audit.specs.declared.doubtful_touches.DoubtfulTouch.{DoubtfulTouch}
use Rattle.epx_audit.specs.inner.Batches.{AreSharing}
use Rattle.epx_audit.specs.inner.DoubtfulKeys.{AreInRange}
use Rattle.epx_audit.specs.inner.SourceBits.{has_bit, AreSourceMarks, HasBitsOf}
pub use Rattle.epx_audit.specs.inner.UnsettledNodes.{doubtful_at}
use Rattle.epx_audit.proofs.BitLemmas.{has_bit-set_or}

-- the sources of its key that matter to a touch: all if it writes, otherwise those that write
abbrev pub word_of : List ℕ → List ℕ → DoubtfulTouch → ℕ
word_of touching writing t = cond t.writes (get_or touching t.key 0) (get_or writing t.key 0)

pub doubtful_at-index : (touches : List DoubtfulTouch) (t : DoubtfulTouch) (h : Contains touches t)
    → doubtful_at touches h.0 ≡ t
doubtful_at-index touches t h = get_or_default touches h.0 _ t h.1 ∙ h.2

-- a touch that a loop reads
pub doubtful_at-in_range : {touches read : List DoubtfulTouch} → read ≡ touches → (nodes keys n : ℕ)
    → n < length read → AreInRange nodes keys touches
    → ((doubtful_at read n).node < nodes) × ((doubtful_at read n).key < keys)
doubtful_at-in_range {touches} {read} same nodes keys n l in_range = in_range (doubtful_at read n)
    (subst (λ ts. Contains ts (doubtful_at read n)) same (Contains-get_or read n _ l))

-- the bits of the other words stay, and the new bits are in the word
pub HasBitsOf-kept : (words : List ℕ) (k v : ℕ) → k < length words → (c w : ℕ)
    → HasBitsOf w (get_or words c 0)
    → HasBitsOf w (get_or (set words k (bit_or (get_or words k 0) v)) c 0)
HasBitsOf-kept words k v l c w old b h = (has_bit-set_or words k v l b c).1 (inl (old b h))

pub HasBitsOf-set : (words : List ℕ) (k v : ℕ) → k < length words
    → HasBitsOf v (get_or (set words k (bit_or (get_or words k 0) v)) k 0)
HasBitsOf-set words k v l b h = (has_bit-set_or words k v l b k).1 (inr (refl, h))

-- the sources of the first n touches are in the words of their keys
abbrev pub AreKeyed : List DoubtfulTouch → List ℕ → Bool → List ℕ → ℕ → Type 0
AreKeyed touches own only words n = (i : ℕ) → i < n
    → IsFalse only ⊎ IsTrue (doubtful_at touches i).writes
    → HasBitsOf (get_or own (doubtful_at touches i).node 0)
    (get_or words (doubtful_at touches i).key 0)

-- the words of the first n touches are in the words of their nodes
abbrev pub AreShared : List DoubtfulTouch → List ℕ → List ℕ → List ℕ → ℕ → Type 0
AreShared touches touching writing words n = (i : ℕ) → i < n
    → HasBitsOf (word_of touching writing (doubtful_at touches i))
    (get_or words (doubtful_at touches i).node 0)

module _ (touches : List DoubtfulTouch) (own : List ℕ) (only : Bool) (words : List ℕ) (n : ℕ) where
  pub AreKeyed-next : (doubtful_at touches n).key < length words → AreKeyed touches own only words n
      → AreKeyed touches own only
      (set words (doubtful_at touches n).key
      (bit_or (get_or words (doubtful_at touches n).key 0)
      (get_or own (doubtful_at touches n).node 0))) (n + 1)
  AreKeyed-next within old i l one = elim (cases_lt i n) [
    | inl past ↦ HasBitsOf-kept words (doubtful_at touches n).key
        (get_or own (doubtful_at touches n).node 0) within (doubtful_at touches i).key
        (get_or own (doubtful_at touches i).node 0) (old i past one)
    | inr here ↦
        let same : n ≡ i = omega arith in
        let new : List ℕ = set words (doubtful_at touches n).key
        (bit_or (get_or words (doubtful_at touches n).key 0)
        (get_or own (doubtful_at touches n).node 0)) in
        subst (λ i. HasBitsOf (get_or own (doubtful_at touches i).node 0)
        (get_or new (doubtful_at touches i).key 0)) same
        (HasBitsOf-set words (doubtful_at touches n).key (get_or own (doubtful_at touches n).node 0)
        within)
  ]

  pub AreKeyed-skip : (doubtful_at touches n).writes ≡ false → only ≡ true
      → AreKeyed touches own only words n → AreKeyed touches own only words (n + 1)
  AreKeyed-skip reads writers old i l one = elim (cases_lt i n) [
    | inl past ↦ old i past one
    | inr here ↦
        let same : i ≡ n = omega arith in
        elim one [
          | inl all ↦ absurd (false≢true (sym all ∙ writers))
          | inr writes ↦ absurd
              (false≢true (sym reads ∙ subst (λ i. IsTrue (doubtful_at touches i).writes) same
              writes))
        ]
  ]

module _ (touches : List DoubtfulTouch) (touching writing words : List ℕ) (n : ℕ) where
  pub AreShared-next : (doubtful_at touches n).node < length words
      → AreShared touches touching writing words n
      → AreShared touches touching writing
      (set words (doubtful_at touches n).node
      (bit_or (get_or words (doubtful_at touches n).node 0)
      (word_of touching writing (doubtful_at touches n)))) (n + 1)
  AreShared-next within old i l = elim (cases_lt i n) [
    | inl past ↦ HasBitsOf-kept words (doubtful_at touches n).node
        (word_of touching writing (doubtful_at touches n)) within (doubtful_at touches i).node
        (word_of touching writing (doubtful_at touches i)) (old i past)
    | inr here ↦
        let same : n ≡ i = omega arith in
        let new : List ℕ = set words (doubtful_at touches n).node
        (bit_or (get_or words (doubtful_at touches n).node 0)
        (word_of touching writing (doubtful_at touches n))) in
        subst (λ i. HasBitsOf (word_of touching writing (doubtful_at touches i))
        (get_or new (doubtful_at touches i).node 0)) same
        (HasBitsOf-set words (doubtful_at touches n).node
        (word_of touching writing (doubtful_at touches n)) within)
  ]

pub AreSharing-from_words : (touches : List DoubtfulTouch)
    (sources own touching writing words : List ℕ)
    → AreSourceMarks sources own
    → ((t : DoubtfulTouch) → Contains touches t
    → HasBitsOf (get_or own t.node 0) (get_or touching t.key 0))
    → ((t : DoubtfulTouch) → Contains touches t → IsTrue t.writes
    → HasBitsOf (get_or own t.node 0) (get_or writing t.key 0))
    → ((t : DoubtfulTouch) → Contains touches t
    → HasBitsOf (word_of touching writing t) (get_or words t.node 0))
    → AreSharing touches sources words
AreSharing-from_words touches sources own touching writing words marks all writers whole b j lb
    share =
    let mine = share.mine in
    let other = share.other in
    let source : IsTrue (has_bit b (get_or own mine.node 0)) =
    (marks b mine.node lb).1 (sym share.nodes.0) in
    let word : IsTrue (has_bit b (word_of touching writing other)) =
    elim (cases_Bool other.writes) [
      | inl has ↦ subst
          (λ (w : Bool). IsTrue
          (has_bit b (cond w (get_or touching other.key 0) (get_or writing other.key 0))))
          (sym has) (subst (λ k. IsTrue (has_bit b (get_or touching k 0))) share.alike
          (all mine share.held.0 b source))
      | inr lacks ↦
          let mine_writes : IsTrue mine.writes =
          elim share.writes [ inl h ↦ h | inr h ↦ absurd (false≢true (sym lacks ∙ h)) ] in
          subst (λ (w : Bool). IsTrue
          (has_bit b (cond w (get_or touching other.key 0) (get_or writing other.key 0))))
          (sym lacks) (subst (λ k. IsTrue (has_bit b (get_or writing k 0))) share.alike
          (writers mine share.held.0 mine_writes b source))
    ] in
    subst (λ k. IsTrue (has_bit b (get_or words k 0))) share.nodes.1
    (whole other share.held.1 b word)
