use Rattle.std.proofs.Common.{◌≡◌, ◌∙◌, ◌++◌, ◌∷◌, [], Err, Result, Some, slice_get, sym, ap, subst}
use Rattle.std.proofs.Common.{◌≤◌, length, arith}
use Rattle.epx_types.proofs.Common.{nat_tests, slice_get-get_or, Instance, Placed}
use Rattle.epx_types.specs.declared.fault.Why.{Why}
use Rattle.epx_lines.specs.declared.Line.{Line}
use Rattle.epx_merge.specs.LogLines.{bad_lines_among, placed_among}
use Rattle.epx_versions.specs.declared.read_line.ReadLine.{ReadLine}
use Rattle.epx_versions.specs.LineVersions.{versions_of}
use Rattle.epx_versions.specs.between.ReadMeanings.{meaning_in}
use Rattle.epx_versions.specs.between.VersionLists.{AreHashed}
use Rattle.epx_versions.proofs.KnownLineLemmas.{meaning_of_version-at, AreKnown-grown}
use Rattle.epx_versions.proofs.KnownLineLemmas.{AreKnown-within, meaning_of_version-known}
use Rattle.epx_versions.proofs.NotedLineLemmas.{AreNotedLines-entry, AreNotedLines-fault}
use Rattle.epx_versions.proofs.VersionLemmas.{versions_of-grows}
use Rattle.epx_versions.proofs.version_notes.VersionNotes.note_line.Goals as goal

pub returns-in_ok-note_version-in-Repeat-clause-noted :
    goal.returns-in_ok-note_version-in-Repeat-clause-noted
returns-in_ok-note_version-in-Repeat-clause-noted c = λ lines noted said.
    let seed = c.args.self.now.seed in
    let cache = c.args.cache.now in
    let numbers = c.args.self.now.numbers.items in
    let meaning : Result Line Why = c.args.line.now.meaning in
    let number = c.in-Repeat.number in
    let version = c.in-Some.version.now in
    let found = c.in-Some.ensures.lookup in
    let placed = placed_among lines in
    let at : slice_get numbers number ≡ Some version =
    ap (λ xs. slice_get xs number) (sym c.deref.ensures.value)
    ∙ (slice_get-get_or c.deref.result.now number version found.3.0
    ∙ ap (λ x. Some x) (sym found.1)) in
    let read : slice_get cache number ≡ Some meaning =
    subst (λ (r : ReadLine). meaning_in seed cache r ≡ Some meaning) c.in-Repeat.is said in
    let commits = meaning_of_version-known (versions_of placed) version meaning
    (meaning_of_version-at (versions_of placed) cache numbers noted.texts number version meaning
    read at) in
    let e : Instance = commits.0 in
    let p : Placed = record { place = c.place.result; instance = e } in
    AreNotedLines-entry _ _ lines c.args.line.now e c.place.result c.place.ensures commits.2 (
      c.in_ok-note_version-in-Repeat.ensures.noted placed (bad_lines_among lines) e
          (ap (λ ks. slice_get ks version) noted.rows.versions ∙ commits.1) noted.rows,
      subst (AreHashed seed) (sym c.in_ok-note_version-in-Repeat.ensures.versions) noted.hashed,
      AreKnown-grown (versions_of placed) (versions_of (placed ++ p ∷ []))
          (versions_of-grows placed (p ∷ [])) numbers cache noted.texts,
    )

pub returns-in_default-clause-noted : goal.returns-in_default-clause-noted
returns-in_default-clause-noted c = λ lines noted said.
    let seed = c.args.self.now.seed in
    let cache = c.args.cache.now in
    let numbers = c.args.self.now.numbers.items in
    let meaning : Result Line Why = c.args.line.now.meaning in
    let number = c.in-Repeat.number in
    let read : slice_get cache number ≡ Some meaning =
    subst (λ (r : ReadLine). meaning_in seed cache r ≡ Some meaning) c.in-Repeat.is said in
    let within = AreKnown-within (versions_of (placed_among lines)) cache numbers noted.texts number
    meaning read in
    let beyond : length c.deref.result.now ≤ number = grind (arith, nat_tests, c.in_default.ensures)
    in
    absurd (omega (arith, within, beyond, ap length c.deref.ensures.value))

pub returns-in_ok-note_bad-in-Bad-clause-noted : goal.returns-in_ok-note_bad-in-Bad-clause-noted
returns-in_ok-note_bad-in-Bad-clause-noted c = λ lines noted said.
    let seed = c.args.self.now.seed in
    let cache = c.args.cache.now in
    let meaning : Result Line Why = c.args.line.now.meaning in
    let why : Why = c.in-Bad.why in
    let read : Some (Err why) ≡ Some meaning =
    subst (λ (r : ReadLine). meaning_in seed cache r ≡ Some meaning) c.in-Bad.is said in
    let means : meaning ≡ Err why = cc read in
    AreNotedLines-fault _ _ lines c.args.line.now why c.place-in-Bad.result c.place-in-Bad.ensures
    means (
      c.in_ok-note_bad-in-Bad.ensures.noted (placed_among lines) (bad_lines_among lines) noted.rows,
      subst (AreHashed seed) (sym c.in_ok-note_bad-in-Bad.ensures.versions) noted.hashed,
      noted.texts,
    )
