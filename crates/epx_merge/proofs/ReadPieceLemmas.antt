-- Lines read one after another: the instances so far, and the first bad line.
use Rattle.std.proofs.Common.{◌≡◌, inl, inr, ℕ, ◌+◌, ◌<◌, List, [], ◌∷◌, ◌++◌, length, get_or, drop}
use Rattle.std.proofs.Common.{Result, Ok, Err, refl, sym, subst, ap, ◌∙◌, add-one, append_assoc}
use Rattle.std.proofs.Common.{append-nil}
use Rattle.epx_types.proofs.Common.{drop-cons, Placed}
use Rattle.epx_types.specs.declared.fault.Why.{Why}
use Rattle.epx_lines.specs.declared.Line.{Line}
use Rattle.epx_merge.specs.declared.pieces.BadLine.{BadLine}
use Rattle.epx_merge.specs.LogLines.{MeaningAt, placed_at, placed_among, bad_lines_at}
use Rattle.epx_merge.specs.LogLines.{bad_lines_among}
use Rattle.epx_merge.specs.between.ReadPieces.{IsFirstBad, AreRead, SkipsOrReads, IsReadBeside}
use Rattle.epx_merge.specs.between.ReadPieces.{AreReadBeside}
use Rattle.epx_merge.specs.between.RedundantLines.{DropsCached}
use Rattle.epx_merge.proofs.ReadFaultLemmas.{placed_among-append, bad_lines_among-append}
use Rattle.epx_merge.proofs.DropsCachedLemmas.{DropsCached-none, DropsCached-append}

-- the lines before the rest, except for some that are redundant in the cache, have these entries
-- and no bad line
pub record IsReading (cache : List (Result Line Why)) (lines rest : List MeaningAt)
    (entries : List Placed) : Type 0 where
  pub done : List MeaningAt
  pub kept : List MeaningAt
  pub whole : lines ≡ done ++ rest
  pub drops : DropsCached cache done kept
  pub clean : bad_lines_among kept ≡ []
  pub placed : placed_among kept ≡ entries

-- the rest begins with the next line
rest_from : (lines : List MeaningAt) (i : ℕ) (line : MeaningAt) → i < length lines
    → line ≡ get_or lines i line → drop i lines ≡ line ∷ drop (i + 1) lines
rest_from lines i line within is = drop-cons lines i line within
    ∙ (λ j. sym is j ∷ drop (sym (add-one i) j) lines)

module _ (cache : List (Result Line Why)) (lines : List MeaningAt) where
  module _ (i : ℕ) (line : MeaningAt) (entries : List Placed) (within : i < length lines)
      (is : line ≡ get_or lines i line) (h : IsReading cache lines (drop i lines) entries) where
    whole_more : lines ≡ (h.done ++ line ∷ []) ++ drop (i + 1) lines
    whole_more = h.whole ∙ ap (λ l. h.done ++ l) (rest_from lines i line within is)
        ∙ sym (append_assoc h.done (line ∷ []) (drop (i + 1) lines))

    -- one more line
    pub IsReading-step : (entries' : List Placed) → SkipsOrReads cache line entries entries'
        → IsReading cache lines (drop (i + 1) lines) entries'
    IsReading-step entries' (inl skipped) = record {
      done = h.done ++ line ∷ [];
      kept = h.kept;
      whole = whole_more;
      drops = subst (DropsCached cache (h.done ++ line ∷ [])) (append-nil h.kept)
          (DropsCached-append cache h.done (line ∷ []) h.kept [] h.drops (inr (skipped.0, refl)));
      clean = h.clean;
      placed = h.placed ∙ sym skipped.1;
    }
    IsReading-step entries' (inr added) = record {
      done = h.done ++ line ∷ [];
      kept = h.kept ++ line ∷ [];
      whole = whole_more;
      drops = DropsCached-append cache h.done (line ∷ []) h.kept (line ∷ []) h.drops
          (DropsCached-none cache (line ∷ []));
      clean = bad_lines_among-append h.kept (line ∷ [])
          ∙ ap (λ s. s ++ bad_lines_among (line ∷ [])) h.clean ∙ ap (λ s. s ++ []) added.0;
      placed = placed_among-append h.kept (line ∷ [])
          ∙ ap (λ p. p ++ placed_among (line ∷ [])) h.placed
          ∙ ap (λ p. entries ++ p) (append-nil (placed_at line.place line.meaning))
          ∙ sym added.1;
    }

    -- the next line is bad
    pub IsReadBeside-bad : {E : Type 0} (holds : List Placed → E → Type 0) (bad : BadLine)
        → bad_lines_at line.place line.meaning ≡ record { place = bad.place; why = bad.why } ∷ []
        → IsReadBeside holds cache lines (Err bad)
    IsReadBeside-bad holds bad is_bad =
        let next = rest_from lines i line within is in
        let left = drop i lines in
        let rest = bad_lines_among (drop (i + 1) lines) in (
          h.kept ++ left,
          subst (λ l. DropsCached cache l (h.kept ++ left)) (sym h.whole)
              (DropsCached-append cache h.done left h.kept left h.drops
              (DropsCached-none cache left)),
          (
            rest,
            bad_lines_among-append h.kept left ∙ ap (λ s. s ++ bad_lines_among left) h.clean
                ∙ ap bad_lines_among next ∙ ap (λ s. s ++ rest) is_bad,
          ),
        )

-- ---- pieces that are read beside a cache

module _ {E : Type 0} (holds : List Placed → E → Type 0) (cache : List (Result Line Why)) where
  -- together they are read, except for some lines that are redundant in the cache
  pub AreRead-from_beside : (lines : List MeaningAt) (pieces : List (Result E BadLine))
      → AreReadBeside holds cache lines pieces
      → (kept : List MeaningAt) × DropsCached cache lines kept × AreRead holds kept pieces
  AreRead-from_beside lines [] none =
      ([], subst (λ l. DropsCached cache l []) (sym none) refl, refl)
  AreRead-from_beside lines (piece ∷ pieces) all =
      let here = all.3 in
      let rest = AreRead-from_beside all.1 pieces all.4 in (
        here.0 ++ rest.0,
        subst (λ l. DropsCached cache l (here.0 ++ rest.0)) (sym all.2)
            (DropsCached-append cache all.0 all.1 here.0 rest.0 here.1 rest.1),
        (here.0, rest.0, refl {a = here.0 ++ rest.0}, here.2, rest.2),
      )

-- ---- pieces gathered one after another

module _ {E : Type 0} (holds : List Placed → E → Type 0) (lines : List MeaningAt) where
  -- the lines of the pieces so far are clean and their instances are gathered; the pieces left are
  -- those of the rest
  pub record IsGathering (gathered : List Placed → Type 0) (left : List (Result E BadLine)) : Type
      0 where
    pub read : List MeaningAt
    pub rest : List MeaningAt
    pub whole : lines ≡ read ++ rest
    pub clean : bad_lines_among read ≡ []
    pub given : gathered (placed_among read)
    pub others : AreRead holds rest left

  pub IsGathering-none : (gathered : List Placed → Type 0) (left : List (Result E BadLine))
      → gathered [] → AreRead holds lines left → IsGathering gathered left
  IsGathering-none gathered left good all =
      record { read = []; rest = lines; whole = refl; clean = refl; given = good; others = all }

  -- one more piece
  pub IsGathering-more : (before after : List Placed → Type 0)
      (left left' : List (Result E BadLine))
      (held : E) → left ≡ Ok held ∷ left'
      → ((xs ys : List Placed) → before xs → holds ys held → after (xs ++ ys))
      → IsGathering before left → IsGathering after left'
  IsGathering-more before after left left' held is add g =
      let next = subst (AreRead holds g.rest) is g.others in
      record {
        read = g.read ++ next.0;
        rest = next.1;
        whole = g.whole ∙ ap (λ l. g.read ++ l) next.2 ∙ sym (append_assoc g.read next.0 next.1);
        clean = bad_lines_among-append g.read next.0
            ∙ ap (λ l. l ++ bad_lines_among next.0) g.clean ∙ next.3.clean;
        given = subst after (sym (placed_among-append g.read next.0))
            (add (placed_among g.read) (placed_among next.0) g.given next.3.placed);
        others = next.4;
      }

  -- the next piece has the first bad line
  pub IsFirstBad-next_piece : (gathered : List Placed → Type 0)
      (left left' : List (Result E BadLine))
      (bad : BadLine) → left ≡ Err bad ∷ left' → IsGathering gathered left → IsFirstBad lines bad
  IsFirstBad-next_piece gathered left left' bad is g =
      let next = subst (AreRead holds g.rest) is g.others in
      let here = next.3 in (
        here.0 ++ bad_lines_among next.1,
        ap bad_lines_among g.whole ∙ bad_lines_among-append g.read g.rest
            ∙ ap (λ l. l ++ bad_lines_among g.rest) g.clean
            ∙ ap bad_lines_among next.2 ∙ bad_lines_among-append next.0 next.1
            ∙ ap (λ l. l ++ bad_lines_among next.1) here.1,
      )

  -- no piece is left
  pub bad_lines_among-gathered : (gathered : List Placed → Type 0) (left : List (Result E BadLine))
      → left ≡ [] → IsGathering gathered left → (bad_lines_among lines ≡ [])
      × gathered (placed_among lines)
  bad_lines_among-gathered gathered left none g =
      let over : g.rest ≡ [] = subst (AreRead holds g.rest) none g.others in
      let all : lines ≡ g.read = g.whole ∙ ap (λ l. g.read ++ l) over ∙ append-nil g.read in
      (ap bad_lines_among all ∙ g.clean, subst (λ l. gathered (placed_among l)) (sym all) g.given)
