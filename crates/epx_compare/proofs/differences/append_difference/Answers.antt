use Rattle.std.proofs.Common.{◌≡◌, ◌∙◌, ◌<◌, ◌++◌, [], ℕ, true, List, All, map, length, get_or}
use Rattle.std.proofs.Common.{slice_get, Some, ap, sym, subst, arith}
use Rattle.epx_types.proofs.Common.{nat_tests, length-map, nil_from_length, get_or_from_slice_get}
use Rattle.epx_types.proofs.Common.{on_ok_weaker, Placed, IsRising}
use Rattle.epx_types.specs.declared.id.Id.{Id}
use Rattle.serde_json.specs.View.{view}
use Rattle.epx_merge.specs.LogLines.{BadLineAt}
use Rattle.epx_rows.specs.between.Rows.{row_of}
use Rattle.epx_compare.specs.declared.catalog.Catalog.{Catalog}
use Rattle.epx_compare.specs.declared.members.Members.{Members}
use Rattle.epx_report.specs.ReportLines.{array_of}
use Rattle.epx_compare.specs.ComparisonLines.{group_data, differs_data}
use Rattle.epx_compare.specs.Differences.{lines_of_id, differing_members, groups_of}
use Rattle.epx_compare.specs.inner.Catalogs.{IsCatalogOf}
use Rattle.epx_compare.specs.inner.NumberedVersions.{AreDiffering, names_of, version_at, place_at}
use Rattle.epx_compare.proofs.GroupLemmas.{All-numbers_within, All-rows_within, map-version_at}
use Rattle.epx_compare.proofs.GroupLemmas.{map-group_data}
use Rattle.epx_compare.proofs.DifferenceTextLemmas.{no_float-written, differs-parts, map-from_nil}
use Rattle.epx_compare.proofs.DifferenceTextLemmas.{difference_text-if_none}
use Rattle.epx_compare.proofs.DifferenceTextLemmas.{difference_text-if_some}
use Rattle.epx_compare.proofs.MemberLemmas.{differing_members-are}
use Rattle.epx_compare.proofs.differences.append_difference.Goals as goal

pub differing-members-requires : goal.differing-members-requires
differing-members-requires c =
    let h = c.requires.catalog in
    let cat = c.args.catalog.now in
    let k = c.args.position in
    let below = subst (λ n. All (λ v. v < n) (row_of cat.versions k))
    (ap length (sym h.2.noted.versions)) (All-numbers_within h.0 h.1 cat h.2 k) in
    subst (All (λ v. v < length cat.noted.versions.keys)) (sym c.row-numbers.ensures) below

-- the members that the code finds
members_are : (lines : List Placed) (bad : List BadLineAt) (c : Catalog) (k : ℕ) (x : Id)
    (numbers : List ℕ) (m : Members) → IsCatalogOf lines bad c → IsRising c.ids
    → slice_get c.ids k ≡ Some x → numbers ≡ row_of c.versions k
    → AreDiffering (map (version_at c.noted.versions.keys) numbers) m
    → differing_members (lines_of_id lines x) ≡ names_of m
members_are lines bad c k x numbers m catalog rising at row differing =
    let same = ap (map (version_at c.noted.versions.keys)) row
    ∙ map-version_at lines bad c catalog rising k x at in
    differing_members-are (lines_of_id lines x) m (subst (λ es. AreDiffering es m) same differing)

pub returns-then-is_empty : goal.returns-then-is_empty
returns-then-is_empty c lines bad x catalog at =
    let items = c.in_ok-names.names.items in
    let none : length items ≡ 0 =
    grind (arith, nat_tests, c.is_empty.ensures, c.if-is_empty.true) in
    let m = c.differing-members.result in
    let members = members_are lines bad c.args.catalog.now c.args.position x
    c.row-numbers.result.now m catalog c.ids.ensures.rising at c.row-numbers.ensures
    c.differing-members.ensures in
    difference_text-if_none lines x c.args.text.now.items
    (members ∙ map-from_nil (map view items) (names_of m)
    c.in_ok-names.ensures (ap (map view) (nil_from_length items none)))

pub group_values-requires-clause-numbers : goal.group_values-requires-clause-numbers
group_values-requires-clause-numbers c =
    let h = c.requires.catalog in
    let cat = c.args.catalog.now in
    let k = c.args.position in
    let below = subst (λ n. All (λ v. v < n) (row_of cat.versions k)) (sym h.2.each_version)
    (All-numbers_within h.0 h.1 cat h.2 k) in
    subst (All (λ v. v < length cat.lines)) (sym c.row-numbers.ensures) below

pub group_values-requires-clause-lines : goal.group_values-requires-clause-lines
group_values-requires-clause-lines c =
    let h = c.requires.catalog in
    let cat = c.args.catalog.now in
    subst (λ n. All (All (λ index. index < n)) cat.lines) (ap length (sym c.deref.ensures.value))
    (All-rows_within h.0 h.1 cat h.2)

pub append_line-requires : goal.append_line-requires
append_line-requires c =
    let zero : Id = record { replica = 0; number = 0 } in
    let id = get_or c.ids.result.now c.args.position zero in
    no_float-written id _ (map view c.in_ok-names.names.items)
    (map view c.in_ok-groups.groups.items) (names_of c.differing-members.result)
    (λ v. map (place_at c.deref.result.now) (row_of c.args.catalog.now.lines v))
    c.row-numbers.result.now c.in_ok-value.ensures c.in_ok-names.ensures c.in_ok-groups.ensures

pub returns : goal.returns
returns c = on_ok_weaker c.append_line.result (λ appended lines bad x catalog at.
    let cat = c.args.catalog.now in
    let k = c.args.position in
    let zero : Id = record { replica = 0; number = 0 } in
    let id = get_or c.ids.result.now k zero in
    let m = c.differing-members.result in
    let items = c.in_ok-names.names.items in
    let names = map view items in
    let groups = map view c.in_ok-groups.groups.items in
    let own = lines_of_id lines x in
    let is_x : id ≡ x = ap (λ ids. get_or ids k zero) c.ids.ensures.ids
    ∙ get_or_from_slice_get cat.ids k x zero at in
    let members = members_are lines bad cat k x c.row-numbers.result.now m catalog
    c.ids.ensures.rising at c.row-numbers.ensures c.differing-members.ensures in
    let found : groups ≡ map (λ v. group_data (map (place_at cat.noted.rows.items)
    (row_of cat.lines v))) (row_of cat.versions k) = c.in_ok-groups.ensures
    ∙ (λ i. map (λ v. group_data (map (place_at (c.deref.ensures.value i))
    (row_of cat.lines v))) (c.row-numbers.ensures i)) in
    let grouped = found ∙ map-group_data lines bad cat catalog c.ids.ensures.rising k x at in
    let written = c.in_ok-value.ensures ∙ (differs-parts id names (names_of m) groups
    (groups_of own) c.in_ok-names.ensures grouped
    ∙ ap (λ y. array_of (differs_data y (names_of m) (groups_of own))) is_x) in
    let some : ¬ (names ≡ []) = λ e.
    let none : length items ≡ 0 = sym (length-map items view) ∙ ap length e in
    let yes : c.is_empty.result ≡ true = grind (arith, nat_tests, c.is_empty.ensures) in
    let no = c.if-is_empty.false in (cc) in
    appended ∙ ap (λ t. c.args.text.now.items ++ t) (difference_text-if_some lines x (names_of m)
    (view c.in_ok-value.value) names members c.in_ok-names.ensures some written))
    c.append_line.ensures
