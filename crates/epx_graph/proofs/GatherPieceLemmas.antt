-- What is gathered of some instances, and of the next ones.
use Rattle.std.proofs.Common.{◌≡◌, ℕ, suc, ◌+◌, ◌-◌, ◌*◌, ◌<◌, ◌≤◌, List, [], ◌∷◌, ◌++◌, length}
use Rattle.std.proofs.Common.{take, drop, drop-cons, get_or, Some, slice_get, refl, sym, ap, subst}
use Rattle.std.proofs.Common.{◌∙◌, append-nil, arith, flat_map, slice_range, Result, Ok, Err}
use Rattle.std.specs.Result.{IfOk}
use Rattle.std.proofs.Math.Nat.{mul-le-mul_right}
use Rattle.std.proofs.Math.Seq.{take-add}
use Rattle.epx_types.proofs.Common.{drop-drop, map-append, take_all, All-append, All-nil, All-push}
use Rattle.epx_types.proofs.Common.{slice_get_within, get_or_from_slice_get, IsRising, Instance}
use Rattle.epx_types.specs.declared.id.Id.{Id}
use Rattle.std.proofs.lemmas.List.Concat.{flat_map-append}
use Rattle.epx_claims.specs.between.Answered.{AreOrderedAnswers}
use Rattle.epx_graph.specs.inner.Nodes.{positions_of, missing_of, IsGatheredOf}
use Rattle.epx_graph.specs.inner.Nodes.{first_of_piece, instances_of_piece}

-- a part of a list, and the next part
parts_joined : {X : Type 0} (xs : List X) (a b c : ℕ) → a ≤ b → b ≤ c
    → slice_range xs a b ++ slice_range xs b c ≡ slice_range xs a c
parts_joined xs a b c low high =
    let at : a + (b - a) ≡ b = omega arith in
    let long : (b - a) + (c - b) ≡ c - a = omega arith in
    ap (λ l. slice_range xs a b ++ take (c - b) l)
    (ap (λ k. drop k xs) (sym at) ∙ sym (drop-drop (b - a) a xs))
    ∙ sym (take-add (b - a) (c - b) (drop a xs))
    ∙ ap (λ n. take n (drop a xs)) long

pub slice_range-whole : {X : Type 0} (xs : List X) (n : ℕ) → length xs ≤ n → slice_range xs 0 n ≡ xs
slice_range-whole xs n l =
    let long : n - 0 ≡ n = omega arith in
    ap (λ k. take k xs) long ∙ take_all n xs l

range_of_one : (m : List Instance) (i : ℕ) (e : Instance) → slice_get m i ≡ Some e
    → slice_range m i (i + 1) ≡ e ∷ []
range_of_one m i e at =
    let same : get_or m i e ≡ e = get_or_from_slice_get m i e e at in
    let one : (i + 1) - i ≡ 1 = omega arith in
    ap (λ n. take n (drop i m)) one ∙ ap (take 1) (drop-cons m i e (slice_get_within m i e at))
    ∙ ap (λ (d : Instance). d ∷ []) same

pub IsGatheredOf-nil : (m : List Instance) (start : ℕ) (rows : List (List ℕ)) (ids : List Id)
    → rows ≡ [] → ids ≡ [] → IsGatheredOf m (slice_range m start start) rows ids
IsGatheredOf-nil m start rows ids no_rows no_ids =
    let none : start - start ≡ 0 = omega arith in
    let nothing : [] ≡ slice_range m start start = sym (ap (λ n. take n (drop start m)) none) in
    subst (λ es. IsGatheredOf m es rows ids) nothing
    (record {
      committed = no_rows;
      missing = no_ids;
      deps_rise = All-nil (λ (e : Instance). IsRising e.deps);
    })

gathered_joined : (m es ds : List Instance) (rows later : List (List ℕ)) (ids others : List Id)
    → IsGatheredOf m es rows ids → IsGatheredOf m ds later others
    → IsGatheredOf m (es ++ ds) (rows ++ later) (ids ++ others)
gathered_joined m es ds rows later ids others is are =
    let row = λ (e : Instance). positions_of m e.deps in
    let lack = λ (e : Instance). missing_of m e.deps in
    record {
      committed = (λ i. is.committed i ++ are.committed i) ∙ sym (map-append row es ds);
      missing = (λ i. is.missing i ++ are.missing i) ∙ sym (flat_map-append lack es ds);
      deps_rise = All-append (λ (e : Instance). IsRising e.deps) es ds is.deps_rise are.deps_rise;
    }

-- one more instance
pub IsGatheredOf-push : (m : List Instance) (start i : ℕ) (e : Instance) (rows : List (List ℕ))
    (ids : List Id) → start ≤ i → slice_get m i ≡ Some e → IsRising e.deps
    → IsGatheredOf m (slice_range m start i) rows ids
    → IsGatheredOf m (slice_range m start (i + 1)) (rows ++ positions_of m e.deps ∷ [])
    (ids ++ missing_of m e.deps)
IsGatheredOf-push m start i e rows ids low at rise is =
    let one : IsGatheredOf m (e ∷ []) (positions_of m e.deps ∷ []) (missing_of m e.deps) = record {
      committed = refl;
      missing = sym (append-nil (missing_of m e.deps));
      deps_rise = All-push (λ (d : Instance). IsRising d.deps) [] e
          (All-nil (λ (d : Instance). IsRising d.deps)) rise;
    } in
    let more : slice_range m start i ++ e ∷ [] ≡ slice_range m start (i + 1) =
    ap (λ l. slice_range m start i ++ l) (sym (range_of_one m i e at))
    ∙ parts_joined m start i (i + 1) low (omega arith) in
    subst (λ es. IsGatheredOf m es (rows ++ positions_of m e.deps ∷ [])
    (ids ++ missing_of m e.deps)) more
    (gathered_joined m (slice_range m start i) (e ∷ []) rows (positions_of m e.deps ∷ []) ids
    (missing_of m e.deps) is one)

-- what is gathered of all pieces, in order
module _ {Z : Type 0} (rows_in : Z → List (List ℕ)) (ids_in : Z → List Id) (m : List Instance)
    (size : ℕ) where
  abbrev first : ℕ → ℕ
  first = first_of_piece size (length m)

  -- what is gathered of one piece
  abbrev IsPiece : ℕ → Z → Type 0
  IsPiece piece z = IsGatheredOf m (instances_of_piece size m piece) (rows_in z) (ids_in z)

  -- a piece and later ones
  gathered_from : (piece : ℕ) (zs : List Z) → ((i : ℕ) → i < length zs
      → (z : Z) × (slice_get zs i ≡ Some z) × IsPiece (piece + i) z)
      → IsGatheredOf m (slice_range m (first piece) (first (piece + length zs)))
      (flat_map rows_in zs) (flat_map ids_in zs)
  gathered_from piece [] each =
      let here : piece ≡ piece + 0 = omega arith in
      subst (λ k. IsGatheredOf m (slice_range m (first piece) (first k)) [] []) here
      (IsGatheredOf-nil m (first piece) [] [] refl refl)
  gathered_from piece (z ∷ zs) each =
      let at = each 0 (omega arith) in
      let same : at.0 ≡ z = cc (at.1) in
      let here : piece + 0 ≡ piece = omega arith in
      let one : IsPiece piece z =
      subst (λ k. IsPiece k z) here (subst (IsPiece (piece + 0)) same at.2) in
      let rest = gathered_from (piece + 1) zs (λ i l.
      let next = each (suc i) (omega arith) in
      let later : piece + suc i ≡ (piece + 1) + i = omega arith in
      (next.0, next.1, subst (λ k. IsPiece k next.0) later next.2)) in
      let end : (piece + 1) + length zs ≡ piece + length (z ∷ zs) = omega arith in
      let low : piece * size ≤ (piece + 1) * size = mul-le-mul_right size (omega arith) in
      let high : (piece + 1) * size ≤ ((piece + 1) + length zs) * size =
      mul-le-mul_right size (omega arith) in
      let whole : instances_of_piece size m piece
      ++ slice_range m (first (piece + 1)) (first ((piece + 1) + length zs))
      ≡ slice_range m (first piece) (first (piece + length (z ∷ zs))) =
      parts_joined m (first piece) (first (piece + 1)) (first ((piece + 1) + length zs))
      (omega arith) (omega arith)
      ∙ ap (λ k. slice_range m (first piece) (first k)) end in
      subst (λ es. IsGatheredOf m es (rows_in z ++ flat_map rows_in zs)
      (ids_in z ++ flat_map ids_in zs)) whole
      (gathered_joined m (instances_of_piece size m piece) _ (rows_in z) (flat_map rows_in zs)
      (ids_in z) (flat_map ids_in zs) one rest)

  pub IsGatheredOf-all : (zs : List Z) (count : ℕ) → length m ≤ count * size
      → AreOrderedAnswers IsPiece count zs
      → IsGatheredOf m m (flat_map rows_in zs) (flat_map ids_in zs)
  IsGatheredOf-all zs count all are =
      let begin : first 0 ≡ 0 = omega arith in
      let many : count ≡ 0 + length zs = omega (arith, are.len) in
      let end : first (0 + length zs) ≡ length m =
      omega (arith, all, ap (λ k. k * size) many) in
      let whole : slice_range m (first 0) (first (0 + length zs)) ≡ m =
      (λ i. slice_range m (begin i) (end i)) ∙ slice_range-whole m (length m) (omega arith) in
      subst (λ es. IsGatheredOf m es (flat_map rows_in zs) (flat_map ids_in zs)) whole
      (gathered_from 0 zs (λ i l.
      let at = are.each i (omega (arith, l, are.len)) in
      let here : i ≡ 0 + i = omega arith in
      (at.0, at.1, subst (λ k. IsPiece k at.0) here at.2)))

-- two clauses about one value
pub IfOk-both : {X E : Type 0} (r : Result X E) (P Q : X → Type 0) → IfOk r P → IfOk r Q
    → IfOk r (λ x. P x × Q x)
IfOk-both (Ok x) P Q p q = (p, q)
IfOk-both (Err e) P Q p q = tt
