use Rattle.std.proofs.Common.{◌≡◌, ◌∙◌, ◌∷◌, ◌++◌, [], Some, slice_get, refl, sym, ap, subst}
use Rattle.epx_types.proofs.Common.{AllZip, Placed}
use Rattle.indexmap.specs.IndexSet.{insert_key}
use Rattle.epx_versions.specs.declared.noted.NotedLine.{NotedLine}
use Rattle.epx_versions.specs.LineVersions.{versions_of}
use Rattle.epx_versions.specs.SameInstances.{same_instance}
use Rattle.epx_versions.specs.between.NotedRows.{IsRowOf}
use Rattle.epx_versions.proofs.VersionLemmas.{versions_of-snoc, rows-snoc}
use Rattle.epx_versions.proofs.noted.Noted.note_entry.Goals as goal

pub returns-clause-noted : goal.returns-clause-noted
returns-clause-noted c lines bad seed noted hashed own =
    let p : Placed = record { place = c.args.place; instance = c.args.version.version } in
    let n = c.in_ok-number.number in
    let inserted = c.in_ok-number.ensures.added seed hashed own in
    let keys : c.insert.new.self.keys ≡ versions_of (lines ++ p ∷ []) = inserted.1
    ∙ (ap (λ ks. insert_key same_instance ks p.instance) noted.versions
    ∙ sym (versions_of-snoc lines p)) in
    let version : slice_get (versions_of (lines ++ p ∷ [])) n ≡ Some p.instance =
    ap (λ ks. slice_get ks n) (sym keys) ∙ c.in_ok-number.ensures.number in
    let row : NotedLine = record { place = c.args.place; version = n } in (
      record {
        versions = keys;
        rows = subst (λ rs. AllZip (IsRowOf (versions_of (lines ++ p ∷ []))) rs (lines ++ p ∷ []))
            (sym c.in_ok-push.ensures.items)
            (rows-snoc c.args.self.now.rows.items lines row p noted.rows refl version);
        bad_lines = noted.bad_lines;
      },
      inserted.0,
    )
