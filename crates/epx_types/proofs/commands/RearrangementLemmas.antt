-- A list of commands at rearranged positions that keep the order of any two that conflict.
use Rattle.std.proofs.Common.{◌≡◌, ◌≢◌, ◌<◌, ◌∙◌, ℕ, zero, suc, List, [], ◌∷◌, length, slice_get}
use Rattle.std.proofs.Common.{slice_index_or, map, Contains, AllPairs, Some, refl, sym, ap, subst}
use Rattle.std.proofs.Common.{inl, inr, arith, ext_get_or}
use Rattle.std.specs.List.{range_with_len}
use Rattle.std.proofs.lemmas.List.FromFn.{length-range_with_len, get_or-range_with_len}
use Rattle.std.proofs.lemmas.List.FromFn.{length-map-range_with_len, get_or-map-range_with_len}
use Rattle.std.proofs.lemmas.Option.{slice_get-get_or}
use Rattle.epx_types.specs.declared.op.Op.{Op}
use Rattle.epx_types.specs.declared.reply.Reply.{Reply}
use Rattle.epx_types.specs.declared.reply.Reply.TheVariants.{Abort}
use Rattle.epx_types.specs.Contents.{Contents}
use Rattle.epx_types.specs.Execution.{execute}
use Rattle.epx_types.specs.LawfulOrders.{Before}
use Rattle.epx_types.specs.Rearrangements.{commands_at, IsRearrangement}
use Rattle.epx_types.proofs.lists.ListPositionLemmas.{AllPairs-head, AllPairs-tail}
use Rattle.epx_types.proofs.lists.ListPositionLemmas.{Contains-slice_get, slice_get-map}
use Rattle.epx_types.proofs.commands.ExecutionLemmas.{length-replies}
use Rattle.epx_types.proofs.commands.RearrangedListLemmas.{Once, Precedes, IsRearranged}
use Rattle.epx_types.proofs.commands.RearrangedListLemmas.{ExecutesAlike, execute-rearranged}

-- ---- pairs of positions, by recursion from the front

module _ {X : Type 0} where
  pub Once-from_AllPairs : (xs : List X) → AllPairs (λ x y. x ≢ y) xs → Once xs
  Once-from_AllPairs [] h = tt
  Once-from_AllPairs (x ∷ xs) h = (
    λ within. AllPairs-head (λ v w. v ≢ w) x xs x h within refl,
    Once-from_AllPairs xs (AllPairs-tail (λ v w. v ≢ w) x xs h),
  )

  pub Precedes-from_Before : (xs : List X) (x y : X) → Before xs x y → Precedes xs x y
  Precedes-from_Before xs x y (i, j, l, p, q) = by xs i j l p q where
    by : (zs : List X) (i j : ℕ) → i < j → slice_get zs i ≡ Some x → slice_get zs j ≡ Some y
        → Precedes zs x y
    by [] i j l p q = absurd (cc p)
    by (z ∷ zs) zero zero l p q = absurd (omega arith)
    by (z ∷ zs) zero (suc j) l p q = inl (cc p, Contains-slice_get zs j y q)
    by (z ∷ zs) (suc i) zero l p q = absurd (omega arith)
    by (z ∷ zs) (suc i) (suc j) l p q = inr (by zs i j (omega arith) p q)

  -- a property of all pairs holds of two elements of which one precedes the other
  pub AllPairs-Precedes : (R : X → X → Type 0) (xs : List X) → AllPairs R xs → (x y : X)
      → Precedes xs x y → R x y
  AllPairs-Precedes R [] h x y k = absurd k
  AllPairs-Precedes R (z ∷ zs) h x y (inl k) =
      subst (λ (v : X). R v y) k.0 (AllPairs-head R z zs y h k.1)
  AllPairs-Precedes R (z ∷ zs) h x y (inr k) =
      AllPairs-Precedes R zs (AllPairs-tail R z zs h) x y k

-- ---- all positions of a list, in order

abbrev pub list_positions : ℕ → List ℕ
list_positions n = range_with_len 0 n

list_positions-rising : (n : ℕ) → AllPairs (λ i j. i < j) (list_positions n)
list_positions-rising n i j d l k =
    let first = get_or-range_with_len 0 n i d (omega (arith, length-range_with_len 0 n)) in
    let second = get_or-range_with_len 0 n j d (omega (arith, length-range_with_len 0 n)) in
    omega (arith, first, second)

list_positions-distinct : (n : ℕ) → AllPairs (λ i j. i ≢ j) (list_positions n)
list_positions-distinct n i j d l k e = let rising = list_positions-rising n i j d l k in
    omega (arith, e)

pub Contains-list_positions : (n i : ℕ) → i < n → Contains (list_positions n) i
Contains-list_positions n i l =
    (i, omega (arith, length-range_with_len 0 n), omega (arith, get_or-range_with_len 0 n i i l))

pub Contains-from_list_positions : (n i : ℕ) → Contains (list_positions n) i → i < n
Contains-from_list_positions n i h =
    let within : h.0 < n = omega (arith, h.1, length-range_with_len 0 n) in
    omega (arith, h.2, get_or-range_with_len 0 n h.0 i within)

-- the elements at all positions are the list
pub map-list_positions : {X : Type 0} (d : X) (xs : List X)
    → map (λ i. slice_index_or xs i d) (list_positions (length xs)) ≡ xs
map-list_positions d xs =
    let len = length-map-range_with_len (λ i. slice_index_or xs i d) 0 (length xs) in
    ext_get_or d (map (λ i. slice_index_or xs i d) (list_positions (length xs))) xs len (λ i l.
    get_or-map-range_with_len (λ i. slice_index_or xs i d) 0 (length xs) i i d (omega (arith, len))
    (omega arith))

-- ---- a rearrangement

module _ (commands : List (List Op)) (positions : List ℕ)
    (arranged : IsRearrangement commands positions) where
  is_rearranged : IsRearranged (λ i. slice_index_or commands i [])
      (list_positions (length commands)) positions
  is_rearranged = record {
    once = Once-from_AllPairs (list_positions (length commands))
        (list_positions-distinct (length commands));
    once_too = Once-from_AllPairs positions arranged.once;
    only = λ i h. arranged.whole i (Contains-from_list_positions (length commands) i h);
    whole = λ i h. Contains-list_positions (length commands) i (arranged.only i h);
    keeps = λ i j h conflict. Precedes-from_Before positions i j
        (arranged.keeps i j (AllPairs-Precedes (λ k l. k < l) (list_positions (length commands))
        (list_positions-rising (length commands)) i j h) conflict);
  }

  alike : (c : Contents) (d : Reply)
      → ExecutesAlike (λ i. slice_index_or commands i [])
      (λ i. slice_index_or (execute commands c).replies i d) (list_positions (length commands))
      positions c
  alike c d =
      let whole : map (λ i. slice_index_or commands i []) (list_positions (length commands))
      ≡ commands = map-list_positions [] commands in
      let replied : map (λ i. slice_index_or (execute commands c).replies i d)
      (list_positions (length commands)) ≡ (execute commands c).replies =
      ap (λ n. map (λ i. slice_index_or (execute commands c).replies i d) (list_positions n))
      (sym (length-replies commands c)) ∙ map-list_positions d (execute commands c).replies in
      execute-rearranged (λ i. slice_index_or commands i [])
      (λ i. slice_index_or (execute commands c).replies i d) positions
      (list_positions (length commands)) is_rearranged c
      (ap (λ os. (execute os c).replies) whole ∙ sym replied)

  -- it leaves the same contents
  pub final-rearranged : (c : Contents)
      → (execute (commands_at commands positions) c).final ≡ (execute commands c).final
  final-rearranged c = (alike c (Abort 0)).final
      ∙ ap (λ os. (execute os c).final) (map-list_positions [] commands)

  -- and the replies are those of the list, at the same positions
  pub replies-rearranged : (c : Contents) (d : Reply)
      → (execute (commands_at commands positions) c).replies
      ≡ map (λ i. slice_index_or (execute commands c).replies i d) positions
  replies-rearranged c d = (alike c d).replies

  -- so each command has the same reply
  pub reply-rearranged : (c : Contents) (k i : ℕ) → slice_get positions k ≡ Some i
      → slice_get (execute (commands_at commands positions) c).replies k
      ≡ slice_get (execute commands c).replies i
  reply-rearranged c k i e =
      let within : i < length (execute commands c).replies =
      omega (
        arith,
        length-replies commands c,
        arranged.only i (Contains-slice_get positions k i e),
      ) in
      ap (λ rs. slice_get rs k) (replies-rearranged c (Abort 0))
      ∙ slice_get-map (λ j. slice_index_or (execute commands c).replies j (Abort 0)) positions k i e
      ∙ sym (slice_get-get_or (execute commands c).replies i (Abort 0) within)
