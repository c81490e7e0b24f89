-- The results of loops over all entries of a map.
use Rattle.std.proofs.Common.{◌≡◌, ◌∙◌, ℕ, ℤ, Option, sym, ap, append-nil, List, [], ◌++◌}
use Rattle.epx_types.proofs.Common.{BTreeMap, IsOrdered, FinMap, Contents, key_cmp, apply_writes}
use Rattle.epx_types.proofs.Common.{entries-from_entries, write_all, insert_all-from_entries}
use Rattle.std.specs.FinMap as contents
use Rattle.epx_types.specs.Writes.{Write}
use Rattle.epx_store.proofs.TreeEntryLemmas.{is_sorted-from_order}

module _ {X : Type 0} (tree : BTreeMap (List ℕ) X) (m : FinMap key_cmp X)
    (view_is : contents.from_entries tree.entries ≡ m) (rises : IsOrdered key_cmp tree) where
  -- the entries of the tree are those of the finite map
  pub entries-of_tree : tree.entries ≡ contents.entries m
  entries-of_tree =
      sym (entries-from_entries tree.entries (is_sorted-from_order tree.entries rises))
      ∙ ap contents.entries view_is

  -- all entries are listed after the earlier ones
  pub entries-listed_after : (before done rest start : List (List ℕ × X)) → rest ≡ []
      → done ++ rest ≡ before ++ start → start ≡ tree.entries → done ≡ before ++ contents.entries m
  entries-listed_after before done rest start e kept from =
      sym (append-nil done) ∙ ap (λ r. done ++ r) (sym e) ∙ kept
      ∙ ap (λ r. before ++ r) (from ∙ entries-of_tree)

  -- all entries are inserted
  pub write_all-of_tree : (made : FinMap key_cmp X) (rest start : List (List ℕ × X)) → rest ≡ []
      → write_all contents.insert rest made ≡ write_all contents.insert start contents.empty
      → start ≡ tree.entries → made ≡ m
  write_all-of_tree made rest start e kept from =
      ap (λ r. write_all contents.insert r made) (sym e)
      ∙ kept
      ∙ ap (λ r. write_all contents.insert r contents.empty) from
      ∙ insert_all-from_entries tree.entries (is_sorted-from_order tree.entries rises)
      ∙ view_is

-- all writes are put in
pub apply_writes-of_tree : (tree : BTreeMap (List ℕ) (Option ℤ)) (m : FinMap key_cmp (Option ℤ))
    → contents.from_entries tree.entries ≡ m → IsOrdered key_cmp tree
    → (before after : Contents) (rest start : List Write) → rest ≡ []
    → apply_writes rest after ≡ apply_writes start before → start ≡ tree.entries
    → after ≡ apply_writes (contents.entries m) before
apply_writes-of_tree tree m view_is rises before after rest start e kept from =
    ap (λ r. apply_writes r after) (sym e) ∙ kept
    ∙ ap (λ r. apply_writes r before) (from ∙ entries-of_tree tree m view_is rises)
