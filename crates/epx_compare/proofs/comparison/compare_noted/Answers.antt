use Rattle.std.proofs.Common.{◌≡◌, ◌≢◌, ◌↔◌, ◌∙◌, ◌≤◌, ◌<◌, [], length, ap, sym, subst, true, arith}
use Rattle.epx_types.proofs.Common.{max_instances}
use Rattle.epx_merge.specs.LogLines.{bad_lines_of, placed_of}
use Rattle.epx_compare.specs.Comparisons.{comparison_text, findings_text}
use Rattle.epx_compare.proofs.NamedLemmas.{AreNamedBy-catalog}
use Rattle.epx_compare.proofs.comparison.compare_noted.Goals as goal
use Rattle.epx_committed.proofs.InstanceCountLemmas.{AreNamedBy-is_unique}

pub returns-then-ids-gt-MAX_INSTANCES : goal.returns-then-ids-gt-MAX_INSTANCES
returns-then-ids-gt-MAX_INSTANCES c = λ logs noted.
    let lines = placed_of logs in
    let bad = bad_lines_of logs in
    let catalog = c.in_ok-catalog.catalog in
    let named = AreNamedBy-catalog lines bad catalog
    (c.in_ok-catalog.ensures lines bad noted.rows) c.ids.ensures.rising in
    let count : length c.ids.result.now ≡ length catalog.ids = ap length c.ids.ensures.ids in
    let many : max_instances < length catalog.ids = omega arith in
    (noted.fit, (catalog.ids, named, many))

pub returns : goal.returns
returns c = λ logs noted.
    let lines = placed_of logs in
    let bad = bad_lines_of logs in
    let catalog = c.in_ok-catalog.catalog in
    let is = c.in_ok-catalog.ensures lines bad noted.rows in
    let named = AreNamedBy-catalog lines bad catalog is c.ids.ensures.rising in
    let count : length c.ids.result.now ≡ length catalog.ids = ap length c.ids.ensures.ids in
    let few : length catalog.ids ≤ max_instances = omega arith in
    let text = c.in_ok-comparison.ensures lines bad is in
    let found = subst (λ n. (c.in_ok-comparison.comparison.has_findings ≡ true)
    ↔ (findings_text n lines bad catalog.ids ≢ [])) (sym noted.as_many) text.found in (
      record {
        fit = noted.fit;
        few = (catalog.ids, named, few);
        compared = record {
          ids = catalog.ids;
          missing = text.missing;
          named = named;
          open_ends = text.open_ends;
          printed = text.printed ∙ ap (λ n. comparison_text n lines bad catalog.ids text.missing)
              (sym noted.as_many);
        };
      },
      (
        λ has. record { ids = catalog.ids; named = named; some = found.0 has },
        λ h. found.1 (subst (λ ids. findings_text (length logs) lines bad ids ≢ [])
            (AreNamedBy-is_unique lines h.ids catalog.ids h.named named) h.some),
      ),
    )

pub comparison_of-requires-clause-catalog : goal.comparison_of-requires-clause-catalog
comparison_of-requires-clause-catalog c =
    let logs = c.requires.0 in
    let lines = placed_of logs in
    let bad = bad_lines_of logs in
    (lines, bad, c.in_ok-catalog.ensures lines bad c.requires.1.rows)
