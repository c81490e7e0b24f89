-- The sources that are made for paths.
use Rattle.std.specs.Prelude.{◌≡◌, ◌≢◌, ◌⊎◌, ℕ, false, List, [], ◌∷◌, Option, Some, None, codes}
use Rattle.epx_devices.specs.DeviceStates.{PathState, path_source}
use Rattle.epx_devices.specs.EitherSources.{either_source}
use Rattle.epx_devices.specs.MemoryDevices.{memory_source}
use Rattle.epx_devices.specs.Models.{OpenerModel, SourceModel}
use Rattle.epx_devices.specs.declared.either_source.EitherSource.{EitherSource}
use Rattle.epx_devices.specs.declared.either_source.EitherSource.TheVariants.{First, Second}

-- a source at a path: of a file, of the input, or of bytes in memory
abbrev pub SourceAt : Type 0 → Type 0 → Type 0 → Type 0
SourceAt O F I = EitherSource (PathState O F) (EitherSource I (List ℕ))

-- the model of a source at a path, by those of the opener, of its files and of the input
abbrev pub model_at : {O F I : Type 0} → OpenerModel O F → SourceModel F → SourceModel I
    → SourceModel (SourceAt O F I)
model_at opening D E = either_source (path_source opening D) (either_source E memory_source)

-- a file that is not open yet
abbrev pub unopened : {O F I : Type 0} → O → List ℕ → SourceAt O F I
unopened opener path = First (record {
  opener = opener;
  path = path;
  file = None;
  failed = false;
})

-- the input, or no bytes once it is taken
abbrev pub input_or_nothing : {O F I : Type 0} → Option I → SourceAt O F I
input_or_nothing (Some input) = Second (First input)
input_or_nothing None = Second (Second [])

-- the source at a path, and the input that is left: a hyphen takes the input, or has no bytes if
-- that is taken already; at any other path there is a file that is not open yet
abbrev pub IsSourceAt : {O F I : Type 0} → O → List ℕ → Option I → Option I → SourceAt O F I
    → Type 0
IsSourceAt opener path input left source =
    ((path ≢ codes "-") × (source ≡ unopened opener path) × (left ≡ input))
    ⊎ ((path ≡ codes "-") × (source ≡ input_or_nothing input) × (left ≡ None))

-- the sources at these paths, in this order, and the input that is left after them
abbrev pub AreSourcesAt : {O F I : Type 0} → O → Option I → Option I → List (List ℕ)
    → List (SourceAt O F I) → Type 0
AreSourcesAt opener input left [] sources = (sources ≡ []) × (left ≡ input)
AreSourcesAt opener input left (path ∷ paths) [] = ⊥
AreSourcesAt {I = I} opener input left (path ∷ paths) (source ∷ sources) =
    (next : Option I) × IsSourceAt opener path input next source
    × AreSourcesAt opener next left paths sources
