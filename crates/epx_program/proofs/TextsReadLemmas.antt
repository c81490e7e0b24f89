-- The texts that sources at paths deliver are those of their files and of the input.
use Rattle.std.proofs.Common.{◌≡◌, ◌∷◌, [], ℕ, List, length, Option, None, Some, codes, refl, subst}
use Rattle.std.proofs.Common.{inl, inr, arith, Bool, Result, Ok, Err, IfOk}
use Rattle.epx_types.specs.declared.fault.Fault.{Fault}
use Rattle.epx_names.specs.declared.task.Task.{Task}
use Rattle.epx_devices.proofs.DeliveryLemmas.{AllAreTheKnown-holds, PathDeliversOpened-holds}
use Rattle.epx_devices.proofs.EitherSourceLemmas.{DeliversAll-from_first, DeliversAll-from_second}
use Rattle.epx_devices.specs.Deliveries.{DeliversAll}
use Rattle.epx_devices.specs.DeviceStates.{PathState, path_source}
use Rattle.epx_devices.specs.EitherSources.{either_source}
use Rattle.epx_devices.specs.MemoryDevices.{memory_source}
use Rattle.epx_devices.specs.Models.{OpenerModel, SourceModel}
use Rattle.epx_devices.specs.declared.either_source.EitherSource.{EitherSource}
use Rattle.epx_devices.specs.declared.either_source.EitherSource.TheVariants.{First, Second}
use Rattle.epx_merge.specs.DeliveredLogs.{EachDelivers, FirstDeliver}
use Rattle.epx_program.specs.Endings.{AddsAnswer, AddsPart}
use Rattle.epx_program.specs.Inputs.{AreTextsAt, IsFileText, IsWholeText, TextRelation}
use Rattle.epx_program.specs.Inputs.{text_relation}
use Rattle.epx_program.specs.SourcesAt.{AreSourcesAt, IsSourceAt, SourceAt, unopened}
use Rattle.epx_program.specs.SourcesAt.{input_or_nothing, model_at}

module _ {O F I : Type 0} (opening : OpenerModel O F) (D : SourceModel F) (opener : O)
    (E : SourceModel I) where
  -- the models of a source of a file, of any other source, and of one of either kind
  abbrev file : SourceModel (PathState O F)
  file = path_source opening D

  abbrev other : SourceModel (EitherSource I (List ℕ))
  other = either_source E memory_source

  abbrev any : SourceModel (SourceAt O F I)
  any = model_at opening D E

  -- the text of the input, while it is left and once it is taken
  abbrev of_input : Option I → List ℕ → Type 0
  of_input (Some input) = IsWholeText E input
  of_input None = λ text. text ≡ []

  file_text : (path : List ℕ) (last : SourceAt O F I) (text : List ℕ)
      → DeliversAll any (unopened opener path) last text
      → IsFileText opening D opener path text
  file_text path last text all =
      let of_path = DeliversAll-from_first file other _ last text all in
      let from = PathDeliversOpened-holds opening D _ of_path.0 text refl of_path.1 in
      (from.opened, from.at_path, (from.last, from.all))

  input_text : (input : I) (last : SourceAt O F I) (text : List ℕ)
      → DeliversAll any (input_or_nothing (Some input)) last text → IsWholeText E input text
  input_text input last text all =
      let inner = DeliversAll-from_second file other (First input) last text all in
      DeliversAll-from_first E memory_source input inner.0 text inner.1

  nothing_text : (last : SourceAt O F I) (text : List ℕ)
      → DeliversAll any (input_or_nothing None) last text → text ≡ []
  nothing_text last text all =
      let inner = DeliversAll-from_second file other (Second []) last text all in
      let bytes = DeliversAll-from_second E memory_source [] inner.0 text inner.1 in
      AllAreTheKnown-holds memory_source (λ s room bytes t read. read) [] bytes.0 text bytes.1

  module _ (whole : I) where
    -- what the texts are, while the input is left and once it is taken
    abbrev relation : Option I → TextRelation
    relation input = record (text_relation opening D opener E whole) { OfInput = of_input input }

    one_text : (path text : List ℕ) (paths texts : List (List ℕ)) (input next : Option I)
        (source last : SourceAt O F I) → IsSourceAt opener path input next source
        → DeliversAll any source last text → AreTextsAt (relation next) paths texts
        → AreTextsAt (relation input) (path ∷ paths) (text ∷ texts)
    one_text path text paths texts (Some input) next source last (inl file) all rest = inl (
      file.0,
      file_text path last text (subst (λ s. DeliversAll any s last text) file.1 all),
      subst (λ i. AreTextsAt (relation i) paths texts) file.2 rest,
    )
    one_text path text paths texts None next source last (inl file) all rest = inl (
      file.0,
      file_text path last text (subst (λ s. DeliversAll any s last text) file.1 all),
      subst (λ i. AreTextsAt (relation i) paths texts) file.2 rest,
    )
    one_text path text paths texts (Some input) next source last (inr hyphen) all rest = inr (
      hyphen.0,
      input_text input last text (subst (λ s. DeliversAll any s last text) hyphen.1 all),
      subst (λ i. AreTextsAt (relation i) paths texts) hyphen.2 rest,
    )
    one_text path text paths texts None next source last (inr hyphen) all rest = inr (
      hyphen.0,
      nothing_text last text (subst (λ s. DeliversAll any s last text) hyphen.1 all),
      subst (λ i. AreTextsAt (relation i) paths texts) hyphen.2 rest,
    )

    -- what sources at paths delivered are the texts at these paths
    texts_from : (input left : Option I) (paths texts : List (List ℕ))
        (sources after : List (SourceAt O F I)) → AreSourcesAt opener input left paths sources
        → length texts ≡ length sources → FirstDeliver any sources after texts
        → AreTextsAt (relation input) paths texts
    texts_from input left [] [] sources after are many whole = refl
    texts_from input left [] (text ∷ texts) [] after are many whole = absurd (cc many)
    texts_from input left [] (text ∷ texts) (s ∷ sources) after are many whole =
        absurd (cc are.0)
    texts_from input left (path ∷ paths) texts [] after are many whole = absurd are
    texts_from input left (path ∷ paths) [] (s ∷ sources) after are many whole = absurd (cc many)
    texts_from input left (path ∷ paths) (text ∷ texts) (s ∷ sources) [] are many whole =
        absurd whole
    texts_from input left (path ∷ paths) (text ∷ texts) (s ∷ sources) (t ∷ after) are many whole =
        one_text path text paths texts input are.0 s t are.1 whole.0
        (texts_from are.0 left paths texts sources after are.2 (omega (arith, many)) whole.1)

  pub AreTextsAt-delivered : (input : I) (left : Option I) (paths : List (List ℕ))
      (sources after : List (SourceAt O F I)) → AreSourcesAt opener (Some input) left paths sources
      → (texts : List (List ℕ)) → EachDelivers any sources after texts
      → AreTextsAt (text_relation opening D opener E input) paths texts
  AreTextsAt-delivered input left paths sources after are texts each =
      texts_from input (Some input) left paths texts sources after are each.as_many each.whole

  -- what a source delivered and then others is the text at its path and those at theirs
  pub AreTextsAt-cons : (input : I) (next left : Option I) (path : List ℕ)
      (source last : SourceAt O F I) (text : List ℕ)
      → IsSourceAt opener path (Some input) next source
      → DeliversAll any source last text → (paths : List (List ℕ))
      (sources after : List (SourceAt O F I)) → AreSourcesAt opener next left paths sources
      → (texts : List (List ℕ)) → EachDelivers any sources after texts
      → AreTextsAt (text_relation opening D opener E input) (path ∷ paths) (text ∷ texts)
  AreTextsAt-cons input next left path source last text is all paths sources after are texts each =
      one_text input path text paths texts (Some input) next source last is all
      (texts_from input next left paths texts sources after are each.as_many each.whole)

  -- what the input delivered, if it is the only source, is the text at a hyphen
  pub AreTextsAt-input : (input : I) (sources after : List I) → sources ≡ input ∷ []
      → (texts : List (List ℕ)) → EachDelivers E sources after texts
      → AreTextsAt (text_relation opening D opener E input) (codes "-" ∷ []) texts
  AreTextsAt-input input sources after only texts each =
      let alone = subst (λ ss. EachDelivers E ss after texts) only each in
      go after texts alone.as_many alone.whole
    where
      go : (after : List I) (texts : List (List ℕ)) → length texts ≡ 1
          → FirstDeliver E (input ∷ []) after texts
          → AreTextsAt (text_relation opening D opener E input) (codes "-" ∷ []) texts
      go after [] many whole = absurd (cc many)
      go [] (text ∷ texts) many whole = absurd whole
      go (last ∷ after) (text ∷ []) many whole = inr (refl, (last, whole.0), refl)
      go (last ∷ after) (text ∷ other ∷ texts) many whole = absurd (omega (arith, many))

-- the answer to texts that are read in one sense is one to texts that are read in another
module _ (task : Task) (old new : Option (List ℕ)) {AreRead Are : List (List ℕ) → Type 0}
    (these : (texts : List (List ℕ)) → AreRead texts → Are texts) where
  pub IfOk-answer_read : (done : Result Bool Fault)
      → IfOk done (λ found. AddsAnswer task found AreRead old new)
      → IfOk done (λ found. AddsAnswer task found Are old new)
  IfOk-answer_read (Ok found) h = (h.0, these h.0 h.1, h.2)
  IfOk-answer_read (Err fault) h = tt

  pub AddsPart-read : AddsPart task AreRead old new → AddsPart task Are old new
  AddsPart-read h = (h.0, these h.0 h.1, h.2)
