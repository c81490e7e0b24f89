-- The texts that are read at the paths of the program's words.
use Rattle.std.specs.Prelude.{◌≡◌, ◌≢◌, ◌⊎◌, ⊤, ℕ, Bool, List, [], ◌∷◌, Option, Some, None, codes}
use Rattle.std.specs.Prelude.{slice_get}
use Rattle.epx_types.specs.declared.fault.Fault.{Fault}
use Rattle.epx_devices.specs.Deliveries.{DeliversAll, DeliversThenFails}
use Rattle.epx_devices.specs.Models.{OpenerModel, SourceModel}
use Rattle.epx_program.specs.FollowStops.{StopsAtPaths}
use Rattle.epx_program.specs.PathsRead.{paths_read}

-- only the input is read: there are no paths, or the only path is a hyphen, which means the input
abbrev pub IsInputAlone : Option (List (List ℕ)) → Type 0
IsInputAlone None = ⊤
IsInputAlone (Some paths) = paths ≡ codes "-" ∷ []

-- `OfFile`, `OfInput`: which text the file at a path has, and which the program's input. `Stops`:
-- with which faults following the logs at paths stops, from the state at a path if there is one,
-- and what is written then
pub record TextRelation : Type 1 where
  pub OfFile : List ℕ → List ℕ → Type 0
  pub OfInput : List ℕ → Type 0
  pub Stops : Option (List ℕ) → Bool → Option (List (List ℕ)) → Fault
      → Option (List ℕ) → Option (List ℕ) → Type 0

-- which text is that of a path once the input is read: nothing is left of the input, so its text
-- is empty
abbrev pub after_input : TextRelation → TextRelation
after_input Is = record Is { OfInput = λ text. text ≡ [] }

-- the texts at these paths, in this order. The first `-` has the text of the program's input, and
-- any other `-` is empty
abbrev pub AreTextsAt : TextRelation → List (List ℕ) → List (List ℕ) → Type 0
AreTextsAt Is [] texts = texts ≡ []
AreTextsAt Is (path ∷ paths) [] = ⊥
AreTextsAt Is (path ∷ paths) (text ∷ texts) =
    ((path ≢ codes "-") × Is.OfFile path text × AreTextsAt Is paths texts)
    ⊎ ((path ≡ codes "-") × Is.OfInput text × AreTextsAt (after_input Is) paths texts)

-- the texts that are read at these paths; without paths that of the input is read
abbrev pub AreTextsRead : TextRelation → Option (List (List ℕ)) → List (List ℕ) → Type 0
AreTextsRead Is paths = AreTextsAt Is (paths_read paths)

-- reads of the source delivered this text, up to its end
abbrev pub IsWholeText : {S : Type 0} → SourceModel S → S → List ℕ → Type 0
IsWholeText {S} D source text = (last : S) × DeliversAll D source last text

-- reads of the file that the opener opened at this path delivered this text, up to its end
abbrev pub IsFileText : {O F : Type 0} → OpenerModel O F → SourceModel F
    → O → List ℕ → List ℕ → Type 0
IsFileText {O} {F} opening D opener path text =
    (file : F) × opening.opens opener path file × IsWholeText D file text

-- the text of a path is what the reads of a file delivered that the opener opened there, and the
-- text of the input what the reads of the input delivered. Following stops by the same reads
abbrev pub text_relation : {O F I : Type 0} → OpenerModel O F → SourceModel F → O
    → SourceModel I → I → TextRelation
text_relation opening D opener E input = record {
  OfFile = IsFileText opening D opener;
  OfInput = IsWholeText E input;
  Stops = StopsAtPaths opening D opener E input;
}

-- reads of the source delivered some bytes or none, and the next read failed
abbrev pub HasFailedRead : {S : Type 0} → SourceModel S → S → Type 0
HasFailedRead {S} D source = (last : S) × DeliversThenFails D source last

-- one of these sources has a failed read
pub record OneHasFailedRead {S : Type 0} (D : SourceModel S) (sources : List S) : Type 0 where
  pub log : ℕ
  pub source : S
  pub there : slice_get sources log ≡ Some source
  pub failed : HasFailedRead D source
