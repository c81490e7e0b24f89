-- The lines of a batch, noted one after another.
use Rattle.std.proofs.Common.{◌≡◌, ◌∙◌, ◌∷◌, ◌++◌, ◌+◌, ℕ, List, [], None, Some, Result, Vec, refl}
use Rattle.std.proofs.Common.{sym, ap, subst, append-nil, append_assoc, length, slice_get}
use Rattle.std.proofs.Common.{length-append, arith}
use Rattle.epx_types.proofs.Common.{Global}
use Rattle.epx_types.specs.declared.fault.Why.{Why}
use Rattle.epx_seed.specs.declared.Seed.{Seed}
use Rattle.epx_lines.specs.declared.Line.{Line}
use Rattle.epx_merge.specs.between.LinePieces.{ArePiecesOf}
use Rattle.epx_merge.specs.LogLines.{MeaningAt}
use Rattle.epx_versions.specs.declared.read_line.ReadLine.{ReadLine}
use Rattle.epx_versions.specs.declared.version_notes.VersionNotes.{VersionNotes}
use Rattle.epx_versions.specs.inner.BatchNotes.{IsNotedUpTo, KeepsNumbers}
use Rattle.epx_versions.specs.between.NotedLines.{AreNotedLines}
use Rattle.epx_versions.specs.between.ReadMeanings.{AreReadSo, meaning_in}
use Rattle.epx_versions.proofs.KnownLineLemmas.{meaning_in-grown}

at_its_place : (done : List MeaningAt) (line : MeaningAt) (left : List MeaningAt)
    → slice_get (done ++ line ∷ left) (length done) ≡ Some line
at_its_place [] line left = refl
at_its_place (other ∷ done) line left = at_its_place done line left

module _ (seed : Seed) (known : List (Result Line Why)) where
  -- the first of the lines was read so, and then the others
  first_read : (here : List MeaningAt) (read : ReadLine) (reads : List ReadLine)
      → AreReadSo seed known here (read ∷ reads)
      → (line : MeaningAt) × (left : List MeaningAt) × (here ≡ line ∷ left)
      × (meaning_in seed known read ≡ Some line.meaning) × AreReadSo seed known left reads
  first_read [] read reads h = absurd (cc h)
  first_read (line ∷ left) read reads h = (
    line,
    left,
    refl,
    let first : meaning_in seed known read ≡ Some line.meaning = cc h in first,
    let rest : AreReadSo seed known left reads = cc h in rest,
  )

  -- no line was read
  none_read : (here : List MeaningAt) → AreReadSo seed known here [] → here ≡ []
  none_read [] h = refl
  none_read (line ∷ left) h = absurd (cc h)

  module _ (lines batch : List MeaningAt) where
    pub IsNotedUpTo-none : (pieces : List (Vec ReadLine Global)) (notes : VersionNotes)
        → notes.seed ≡ seed → AreNotedLines lines notes known []
        → ArePiecesOf (λ lines (piece : Vec ReadLine Global).
        AreReadSo seed known lines piece.items) batch pieces
        → IsNotedUpTo seed known lines batch 0 [] pieces notes known
    IsNotedUpTo-none pieces notes same noted given = record {
      done = [];
      here = [];
      rest = batch;
      whole = refl;
      place = refl;
      said = refl;
      later = given;
      noted = subst (λ l. AreNotedLines l notes known []) (sym (append-nil lines)) noted;
      same = same;
      grown = λ n m h. h;
    }

    -- the next piece is begun
    pub IsNotedUpTo-piece : (at : ℕ) (piece : Vec ReadLine Global)
        (pieces : List (Vec ReadLine Global))
        (notes : VersionNotes) (cache : List (Result Line Why))
        → IsNotedUpTo seed known lines batch at [] (piece ∷ pieces) notes cache
        → IsNotedUpTo seed known lines batch at piece.items pieces notes cache
    IsNotedUpTo-piece at piece pieces notes cache h =
        let none = none_read h.here h.said in
        let next = h.later in record {
          done = h.done;
          here = next.0;
          rest = next.1;
          whole = h.whole ∙ ap (λ l. h.done ++ l) (ap (λ l. l ++ h.rest) none ∙ next.2);
          place = h.place;
          said = next.3;
          later = next.4;
          noted = h.noted;
          same = h.same;
          grown = h.grown;
        }

    -- all pieces are noted
    pub AreNotedLines-all : (at : ℕ) (notes : VersionNotes) (cache : List (Result Line Why))
        → IsNotedUpTo seed known lines batch at [] [] notes cache
        → AreNotedLines (lines ++ batch) notes cache []
    AreNotedLines-all at notes cache h =
        let none = none_read h.here h.said in
        let rest : h.rest ≡ [] = h.later in
        let all : batch ≡ h.done = h.whole ∙ ((λ i. h.done ++ (none i ++ rest i))
        ∙ append-nil h.done) in
        subst (λ l. AreNotedLines (lines ++ l) notes cache []) (sym all) h.noted

    -- ---- the next line of a piece

    module _ (at : ℕ) (read : ReadLine) (reads : List ReadLine)
        (pieces : List (Vec ReadLine Global)) (notes : VersionNotes)
        (cache : List (Result Line Why))
        (h : IsNotedUpTo seed known lines batch at (read ∷ reads) pieces notes cache) where
      found : slice_get batch at ≡ Some (first_read h.here read reads h.said).0
      found =
          let first = first_read h.here read reads h.said in
          ap (λ n. slice_get batch n) h.place
          ∙ (ap (λ b. slice_get b (length h.done))
          (h.whole ∙ ap (λ l. h.done ++ (l ++ h.rest)) first.2)
          ∙ at_its_place h.done first.0 (first.1 ++ h.rest))

      pub slice_get-batch_line : slice_get batch at ≡ None → ⊥
      slice_get-batch_line none =
          let e : Some (first_read h.here read reads h.said).0 ≡ None = sym found ∙ none in
          absurd (cc e)

      module _ (line : MeaningAt) (is : slice_get batch at ≡ Some line) where
        same_line : (first_read h.here read reads h.said).0 ≡ line
        same_line =
            let e : Some (first_read h.here read reads h.said).0 ≡ Some line = sym found ∙ is in
            cc e

        -- the line was read so
        pub meaning_in-line : meaning_in notes.seed cache read ≡ Some line.meaning
        meaning_in-line =
            let first = first_read h.here read reads h.said in
            let said = first.3 ∙ ap (λ (l : MeaningAt). Some l.meaning) same_line in
            subst (λ s. meaning_in s cache read ≡ Some line.meaning) (sym h.same)
            (meaning_in-grown seed known cache h.grown read line.meaning said)

        -- the line is noted
        pub IsNotedUpTo-line : (next : ℕ) → next ≡ at + 1 → (notes' : VersionNotes)
            (cache' : List (Result Line Why))
            → AreNotedLines ((lines ++ h.done) ++ line ∷ []) notes' cache' []
            → notes'.seed ≡ notes.seed → KeepsNumbers cache cache'
            → IsNotedUpTo seed known lines batch next reads pieces notes' cache'
        IsNotedUpTo-line next after notes' cache' noted same grown =
            let first = first_read h.here read reads h.said in
            let is_first : h.here ≡ line ∷ first.1 = first.2 ∙ ap (λ l. l ∷ first.1) same_line in
            record {
              done = h.done ++ line ∷ [];
              here = first.1;
              rest = h.rest;
              whole = h.whole ∙ (ap (λ l. h.done ++ (l ++ h.rest)) is_first
                  ∙ sym (append_assoc h.done (line ∷ []) (first.1 ++ h.rest)));
              place = omega (arith, after, h.place, length-append h.done (line ∷ []));
              said = first.4;
              later = h.later;
              noted = subst (λ l. AreNotedLines l notes' cache' [])
                  (append_assoc lines h.done (line ∷ [])) noted;
              same = same ∙ h.same;
              grown = λ n m k. grown n m (h.grown n m k);
            }
