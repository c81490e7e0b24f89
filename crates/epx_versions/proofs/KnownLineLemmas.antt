-- Lines of a cache and what they commit, as more versions and lines are added.
use Rattle.std.proofs.Common.{◌≡◌, ◌∙◌, ◌∷◌, ◌++◌, ℕ, List, [], Option, None, Some, Result, Ok}
use Rattle.std.proofs.Common.{slice_get, refl, sym, ap, option_map, ◌==◌, Bool, true, false, cond}
use Rattle.std.proofs.Common.{◌<◌, length, map, arith}
use Rattle.epx_types.proofs.Common.{nat_tests, length-map, slice_get_within, Instance}
use Rattle.epx_types.specs.declared.fault.Why.{Why}
use Rattle.epx_seed.specs.declared.Seed.{Seed}
use Rattle.epx_types.proofs.lists.ListPositionLemmas.{slice_get-map}
use Rattle.epx_lines.specs.declared.Line.{Line}
use Rattle.epx_lines.specs.declared.Line.TheVariants.{Entry}
use Rattle.epx_versions.specs.declared.read_line.ReadLine.{ReadLine}
use Rattle.epx_versions.specs.declared.read_line.ReadLine.TheVariants as read
use Rattle.epx_versions.specs.inner.BatchNotes.{KeepsNumbers}
use Rattle.epx_versions.specs.between.KnownLines.{AreKnown, meaning_of_version}
use Rattle.epx_versions.specs.between.ReadMeanings.{meaning_in}

abbrev pub line_of : Instance → Result Line Why
line_of e = Ok (Entry e)

committed_by : (found : Option Instance) (m : Result Line Why) → option_map line_of found ≡ Some m
    → (e : Instance) × (found ≡ Some e) × (m ≡ Ok (Entry e))
committed_by None m h = absurd (cc h)
committed_by (Some e) m h = (e, refl, let same : m ≡ line_of e = cc h in same)

-- a line that commits a version commits an instance
pub meaning_of_version-known : (versions : List Instance) (v : ℕ) (m : Result Line Why)
    → meaning_of_version versions v ≡ Some m
    → (e : Instance) × (slice_get versions v ≡ Some e) × (m ≡ Ok (Entry e))
meaning_of_version-known versions v m h = committed_by (slice_get versions v) m h

-- the line with this number in the cache commits the version with its number
pub meaning_of_version-at : (versions : List Instance) (cache : List (Result Line Why))
    (numbers : List ℕ)
    → AreKnown versions cache numbers → (n v : ℕ) (m : Result Line Why)
    → slice_get cache n ≡ Some m → slice_get numbers n ≡ Some v
    → meaning_of_version versions v ≡ Some m
meaning_of_version-at versions cache numbers known n v m line number =
    let left = slice_get-map (meaning_of_version versions) numbers n v number in
    let right = slice_get-map (λ x. Some x) cache n m line in
    let both : Some (meaning_of_version versions v) ≡ Some (Some m) =
    sym left ∙ (ap (λ xs. slice_get xs n) known ∙ right) in cc both

-- each line of the cache has a number
pub AreKnown-within : (versions : List Instance) (cache : List (Result Line Why)) (numbers : List ℕ)
    → AreKnown versions cache numbers → (n : ℕ) (m : Result Line Why)
    → slice_get cache n ≡ Some m → n < length numbers
AreKnown-within versions cache numbers known n m line =
    let within = slice_get_within cache n m line in
    let as_many : length (map (meaning_of_version versions) numbers)
    ≡ length (map (λ (x : Result Line Why). Some x) cache) = ap length known in
    omega (
      arith,
      within,
      as_many,
      length-map {B = Option (Result Line Why)} numbers (meaning_of_version versions),
      length-map {B = Option (Result Line Why)} cache (λ (x : Result Line Why). Some x),
    )

-- ---- more versions

module _ (old new : List Instance)
    (grows : (i : ℕ) (e : Instance) → slice_get old i ≡ Some e → slice_get new i ≡ Some e) where
  version_grown : (v : ℕ) (m : Result Line Why) → meaning_of_version old v ≡ Some m
      → meaning_of_version new v ≡ Some m
  version_grown v m h =
      let found = meaning_of_version-known old v m h in
      ap (option_map line_of) (grows v found.0 found.1)
      ∙ ap (λ x. Some x) (sym found.2)

  -- what is known stays known
  pub AreKnown-grown : (numbers : List ℕ) (cache : List (Result Line Why))
      → AreKnown old cache numbers → AreKnown new cache numbers
  AreKnown-grown [] [] h = refl
  AreKnown-grown [] (m ∷ cache) h = absurd (cc h)
  AreKnown-grown (v ∷ numbers) [] h = absurd (cc h)
  AreKnown-grown (v ∷ numbers) (m ∷ cache) h =
      let here : meaning_of_version old v ≡ Some m = cc h in
      let rest : AreKnown old cache numbers = cc h in
      let first = version_grown v m here in
      let later = AreKnown-grown numbers cache rest in
      λ i. first i ∷ later i

-- ---- more lines in the cache

-- a line that was read beside the old cache means the same beside the new one
pub meaning_in-grown : (seed : Seed) (old new : List (Result Line Why)) → KeepsNumbers old new
    → (r : ReadLine) (m : Result Line Why) → meaning_in seed old r ≡ Some m
    → meaning_in seed new r ≡ Some m
meaning_in-grown seed old new kept read.Blank m h = h
meaning_in-grown seed old new kept (read.Fresh v bytes) m h = h
meaning_in-grown seed old new kept (read.Repeat number) m h = kept number m h
meaning_in-grown seed old new kept (read.Bad why) m h = h

-- ---- lines that the cache lacks

module _ (hash own : ℕ) (line m : Result Line Why) where
  fresh : (b : Bool) → (hash == own) ≡ b → cond b (Some line) None ≡ Some m
      → (hash ≡ own) × (m ≡ line)
  fresh true test h =
      let same : hash ≡ own = grind (arith, nat_tests) in
      let means : m ≡ line = cc h in (same, means)
  fresh false test h = absurd (cc h)
