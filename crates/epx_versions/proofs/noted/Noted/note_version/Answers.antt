use Rattle.std.proofs.Common.{◌≡◌, ◌∙◌, ◌∷◌, ◌++◌, [], Some, slice_get, refl, sym, ap, subst}
use Rattle.epx_types.proofs.Common.{AllZip, Contains-slice_get, Placed}
use Rattle.epx_versions.specs.declared.noted.NotedLine.{NotedLine}
use Rattle.epx_versions.specs.between.NotedRows.{IsRowOf}
use Rattle.epx_versions.specs.LineVersions.{versions_of}
use Rattle.epx_versions.proofs.VersionLemmas.{versions_of-repeat, rows-snoc}
use Rattle.epx_versions.proofs.noted.Noted.note_version.Goals as goal

pub returns-clause-noted : goal.returns-clause-noted
returns-clause-noted c lines bad instance found noted =
    let p : Placed = record { place = c.args.place; instance = instance } in
    let at : slice_get (versions_of lines) c.args.version ≡ Some instance =
    ap (λ ks. slice_get ks c.args.version) (sym noted.versions) ∙ found in
    let same = versions_of-repeat lines p
    (Contains-slice_get (versions_of lines) c.args.version instance at) in
    let row : NotedLine = record { place = c.args.place; version = c.args.version } in
    record {
      versions = noted.versions ∙ sym same;
      rows = subst (λ rs. AllZip (IsRowOf (versions_of (lines ++ p ∷ []))) rs (lines ++ p ∷ []))
          (sym c.in_ok-push.ensures.items)
          (rows-snoc c.args.self.now.rows.items lines row p noted.rows refl
          (ap (λ ks. slice_get ks c.args.version) same ∙ at));
      bad_lines = noted.bad_lines;
    }
