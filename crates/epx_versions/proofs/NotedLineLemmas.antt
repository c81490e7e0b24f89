-- Lines that are noted one after another.
use Rattle.std.proofs.Common.{◌≡◌, ◌∙◌, ◌∷◌, ◌++◌, List, [], Result, Ok, Err, sym, ap, subst, refl}
use Rattle.std.proofs.Common.{append-nil}
use Rattle.std.proofs.lemmas.List.Concat.{flat_map-append}
use Rattle.epx_types.proofs.Common.{Instance, Placed}
use Rattle.epx_types.specs.declared.fault.Why.{Why}
use Rattle.epx_types.specs.declared.place.Place.{Place}
use Rattle.epx_lines.specs.declared.Line.{Line}
use Rattle.epx_lines.specs.declared.Line.TheVariants.{Entry}
use Rattle.epx_merge.specs.LogLines.{BadLineAt, MeaningAt, bad_lines_among, bad_lines_at}
use Rattle.epx_merge.specs.LogLines.{placed_among, placed_at}
use Rattle.epx_merge.specs.between.RedundantLines.{DropsCached}
use Rattle.epx_versions.specs.declared.version_notes.VersionNotes.{VersionNotes}
use Rattle.epx_versions.specs.between.KnownLines.{AreKnown}
use Rattle.epx_versions.specs.LineVersions.{versions_of}
use Rattle.epx_versions.specs.between.NotedLines.{AreNotedLines}
use Rattle.epx_versions.specs.between.NotedRows.{AreNoted}
use Rattle.epx_versions.specs.between.VersionLists.{AreHashed}
use Rattle.epx_versions.proofs.BlankLineLemmas.{bad_lines_among-batch, placed_among-batch}

placed_among-append : (xs ys : List MeaningAt)
    → placed_among (xs ++ ys) ≡ placed_among xs ++ placed_among ys
placed_among-append xs ys = flat_map-append (λ (l : MeaningAt). placed_at l.place l.meaning) xs ys

bad_lines_among-append : (xs ys : List MeaningAt)
    → bad_lines_among (xs ++ ys) ≡ bad_lines_among xs ++ bad_lines_among ys
bad_lines_among-append xs ys =
    flat_map-append (λ (l : MeaningAt). bad_lines_at l.place l.meaning) xs ys

module _ (notes : VersionNotes) (cache : List (Result Line Why)) where
  -- lines that commit this, and of which these are bad, are noted
  abbrev pub AreNotedAs : List Placed → List BadLineAt → Type 0
  AreNotedAs placed bad = AreNoted placed bad notes.noted
      × AreHashed notes.seed notes.noted.versions
      × AreKnown (versions_of placed) cache notes.numbers.items

  noted_as : (lines : List MeaningAt) (placed : List Placed) (bad : List BadLineAt)
      → placed ≡ placed_among lines → bad ≡ bad_lines_among lines → AreNotedAs placed bad
      → AreNotedLines lines notes cache []
  noted_as lines placed bad same same' h =
      let h' = subst (λ ps. AreNotedAs ps (bad_lines_among lines)) same
      (subst (AreNotedAs placed) same' h) in
      record { none = refl; rows = h'.0; texts = h'.2; hashed = h'.1 }

  -- ---- one more line

  module _ (lines : List MeaningAt) (line : MeaningAt) where
    abbrev placed_with : Result Line Why → List Placed
    placed_with meaning = placed_among lines ++ placed_at line.place meaning

    abbrev bad_with : Result Line Why → List BadLineAt
    bad_with meaning = bad_lines_among lines ++ bad_lines_at line.place meaning

    noted_with : (meaning : Result Line Why) → line.meaning ≡ meaning
        → AreNotedAs (placed_with meaning) (bad_with meaning)
        → AreNotedLines (lines ++ line ∷ []) notes cache []
    noted_with meaning means h =
        let here = subst (λ m. AreNotedAs (placed_with m) (bad_with m)) (sym means) h in
        noted_as (lines ++ line ∷ []) (placed_with line.meaning) (bad_with line.meaning)
        (sym (placed_among-append lines (line ∷ [])
        ∙ ap (λ ps. placed_among lines ++ ps) (append-nil (placed_at line.place line.meaning))))
        (sym (bad_lines_among-append lines (line ∷ [])
        ∙ ap (λ bs. bad_lines_among lines ++ bs)
        (append-nil (bad_lines_at line.place line.meaning)))) here

    pub AreNotedLines-entry : (e : Instance) (at : Place) → at ≡ line.place
        → line.meaning ≡ Ok (Entry e)
        → AreNotedAs (placed_among lines ++ record { place = at; instance = e } ∷ [])
        (bad_lines_among lines) → AreNotedLines (lines ++ line ∷ []) notes cache []
    AreNotedLines-entry e at is means h = noted_with (Ok (Entry e)) means
        (subst (λ p. AreNotedAs (placed_among lines ++ record { place = p; instance = e } ∷ [])
        (bad_lines_among lines ++ [])) is
        (subst (AreNotedAs (placed_among lines ++ record { place = at; instance = e } ∷ []))
        (sym (append-nil (bad_lines_among lines))) h))

    pub AreNotedLines-fault : (why : Why) (at : Place) → at ≡ line.place → line.meaning ≡ Err why
        → AreNotedAs (placed_among lines)
        (bad_lines_among lines ++ record { place = at; why = why } ∷ [])
        → AreNotedLines (lines ++ line ∷ []) notes cache []
    AreNotedLines-fault why at is means h = noted_with (Err why) means
        (subst (λ p. AreNotedAs (placed_among lines ++ [])
        (bad_lines_among lines ++ record { place = p; why = why } ∷ [])) is
        (subst (λ ps. AreNotedAs ps
        (bad_lines_among lines ++ record { place = at; why = why } ∷ []))
        (sym (append-nil (placed_among lines))) h))

  -- ---- a batch

  -- all lines are noted where those of the batch are, which are all but some blank ones
  pub AreNotedLines-batch : (lines cut batch : List MeaningAt) → DropsCached [] cut batch
      → AreNotedLines (lines ++ batch) notes cache [] → AreNotedLines (lines ++ cut) notes cache []
  AreNotedLines-batch lines cut batch drops h =
      noted_as (lines ++ cut) (placed_among (lines ++ batch))
      (bad_lines_among (lines ++ batch))
      (placed_among-append lines batch
      ∙ (ap (λ ps. placed_among lines ++ ps) (placed_among-batch cut batch drops)
      ∙ sym (placed_among-append lines cut)))
      (bad_lines_among-append lines batch
      ∙ (ap (λ bs. bad_lines_among lines ++ bs) (bad_lines_among-batch cut batch drops)
      ∙ sym (bad_lines_among-append lines cut)))
      (h.rows, h.hashed, h.texts)
