use Rattle.std.proofs.Common.{◌≡◌, ◌⊎◌, inl, inr, ◌-◌, ◌++◌, Some, get_or, length, replicate, set}
use Rattle.std.proofs.Common.{subst, ap, ◌∙◌, arith}
use Rattle.std.proofs.lemmas.List.Sorted.{IsNonDecreasingBy-from_sort}
use Rattle.epx_audit.specs.declared.path_cover.PathMember.{PathMember}
use Rattle.epx_audit.specs.inner.PathCovers.{AddsTo, greatest_on, lists_of}
use Rattle.epx_audit.proofs.RowMergeLemmas.{IsNextComponent-from_lists, AreNotedPaths-permutation}
use Rattle.epx_audit.proofs.path_cover.PathCover.push_component.Goals as goal

pub push_row-requires : goal.push_row-requires
push_row-requires c = record {
  paths = AreNotedPaths-permutation c.note.new.self.greatest.items c.note.new.self.paths.items
      c.sort_unstable.new.self.items c.sort_unstable.ensures.permutation c.in_ok-note.ensures.paths;
}

pub clear-requires : goal.clear-requires
clear-requires c = record {
  paths = AreNotedPaths-permutation c.note.new.self.greatest.items c.note.new.self.paths.items
      c.sort_unstable.new.self.items c.sort_unstable.ensures.permutation c.in_ok-note.ensures.paths;
}

pub returns-clause-next : goal.returns-clause-next
returns-clause-next c =
    let old = lists_of c.args.self.now in
    let row = c.note.new.self.greatest.items in
    let paths = c.sort_unstable.new.self.items in
    let added = c.in_ok-push_row.ensures.positions in
    let member : PathMember = record {
      start = c.len-start.result;
      path = c.path_on-path.result;
      row_start = c.len-row_start.result;
      row_end = c.len.result;
    } in
    let start : c.len-start.result ≡ length c.args.self.now.members.items =
    omega (arith, c.len-start.ensures, c.args.self.now.members.ok.0) in
    let row_start : c.len-row_start.result ≡ length c.args.self.now.row_paths.items =
    omega (arith, c.len-row_start.ensures, c.args.self.now.row_paths.ok.0) in
    let row_end : c.len.result
    ≡ length (c.args.self.now.row_paths.items ++ c.sort_unstable.new.self.items) =
    c.len.ensures ∙ (c.push_row.new.row_paths.ok.0 ∙ ap length c.in_ok-push_row.ensures.paths) in
    let path : (c.path_on-path.result ≡ length c.args.self.now.members.items)
    ⊎ (greatest_on c.args.row.now.greatest.items c.path_on-path.result
    ≡ Some (get_or c.args.tails.now c.path_on-path.result 0)) = elim c.path_on-path.ensures [
      | inl first ↦ inl (first ∙ start)
      | inr noted ↦ inr noted
    ] in
    let own : AddsTo c.args.row.now.greatest.items row
    (λ x e. (x ≡ c.path_on-path.result) × (e ≡ length c.args.self.now.members.items)) =
    subst (λ n. AddsTo c.args.row.now.greatest.items row
    (λ x e. (x ≡ c.path_on-path.result) × (e ≡ n))) start c.in_ok-note.ensures.adds in (
      member,
      row,
      IsNextComponent-from_lists old c.args.end c.args.row.now.greatest.items row c.args.tails.now
          member paths
          added.0 (omega arith) c.requires.entries start path own
          (AreNotedPaths-permutation row c.note.new.self.paths.items paths
          c.sort_unstable.ensures.permutation
          c.in_ok-note.ensures.paths) added.1
          (IsNonDecreasingBy-from_sort (λ x. x) paths c.sort_unstable.ensures.sorted)
          row_start row_end c.push_copies.new.members.items c.push_row.new.row_paths.items
          c.push_row.new.row_positions.items
          (set c.args.tails.now c.path_on-path.result c.len-start.result)
          (c.in_ok-push_copies.ensures
          ∙ ap (λ n. c.args.self.now.members.items ++ replicate (c.args.end - n) member) start)
          c.in_ok-push_row.ensures.paths added.2
          (ap (λ n. set c.args.tails.now c.path_on-path.result n) start),
    )
