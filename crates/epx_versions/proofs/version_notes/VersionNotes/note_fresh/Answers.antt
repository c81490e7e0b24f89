use Rattle.std.proofs.Common.{◌≡◌, ◌∙◌, ◌++◌, ◌∷◌, [], Some, slice_get, sym, ap, option_map}
use Rattle.epx_types.proofs.Common.{IfOk-weaker, Instance, Placed}
use Rattle.epx_merge.specs.LogLines.{bad_lines_among, placed_among}
use Rattle.epx_versions.specs.between.KnownLines.{meaning_of_version}
use Rattle.epx_versions.specs.LineVersions.{versions_of}
use Rattle.epx_versions.proofs.KnownLineLemmas.{AreKnown-grown, line_of}
use Rattle.epx_versions.proofs.NotedLineLemmas.{AreNotedLines-entry}
use Rattle.epx_versions.proofs.VersionLemmas.{versions_of-grows}
use Rattle.epx_versions.proofs.version_notes.VersionNotes.note_fresh.Goals as goal

pub returns-clause-noted : goal.returns-clause-noted
returns-clause-noted c = IfOk-weaker c.cache_line.result _ _ (λ _ known lines noted own means.
    let e : Instance = c.args.version.version in
    let p : Placed = record { place = c.place.result; instance = e } in
    let placed = placed_among lines in
    let all = placed ++ p ∷ [] in
    let n = c.in_ok-number.number in
    let after = c.in_ok-number.ensures.noted placed (bad_lines_among lines) c.args.self.now.seed
    noted.rows noted.hashed own in
    let number : slice_get (versions_of all) n ≡ Some e =
    ap (λ ks. slice_get ks n) (sym after.0.versions) ∙ c.in_ok-number.ensures.number in
    let says : meaning_of_version (versions_of all) n ≡ Some c.args.line.now.meaning =
    ap (option_map line_of) number ∙ ap (λ m. Some m) (sym means) in
    AreNotedLines-entry _ _ lines c.args.line.now e c.place.result c.place.ensures means (
      after.0,
      after.1,
      known (versions_of all) says (AreKnown-grown (versions_of placed) (versions_of all)
          (versions_of-grows placed (p ∷ [])) c.args.self.now.numbers.items c.args.cache.now
          noted.texts),
    )) c.cache_line.ensures.known
