-- Lists of ranks: the element at a position, and one more rank.
use Rattle.std.proofs.Common.{◌≡◌, ◌&&◌, ℕ, ◌+◌, ◌<◌, List, [], ◌∷◌, ◌++◌, length, take, get_or}
use Rattle.std.proofs.Common.{slice_get, Some, Bool, true, false, eqb, is_eq, sym, ap, ◌∙◌, arith}
use Rattle.epx_types.proofs.Common.{nat_tests, length-map, count_by_more_no, count_by_more_yes}
use Rattle.epx_types.proofs.Common.{slice_get-get_or, Ranked, ranked_ids, component_count, id_cmp}
use Rattle.epx_types.specs.declared.id.Id.{Id}
use Rattle.std.proofs.lemmas.List.{get_or-map, map_more}
use Rattle.epx_types.proofs.lists.ListPositionLemmas.{slice_get-map}
use Rattle.epx_components.specs.Ranks.{ranked, ranked_all}
use Rattle.epx_components.specs.declared.rank.Rank.{Rank}

pub ranked_all-at : (ranks : List Rank) (i : ℕ) (r : Rank) → i < length (ranked_all ranks)
    → r ≡ get_or ranks i r → slice_get (ranked_all ranks) i ≡ Some (ranked r)
ranked_all-at ranks i r l at = slice_get-map ranked ranks i r
    (slice_get-get_or ranks i r (omega (arith, length-map ranks ranked)) ∙ ap Some (sym at))

-- whether two Ids are equal
abbrev pub same_id : Id → Id → Bool
same_id x y = eqb x.replica y.replica && eqb x.number y.number

same_id-is_eq : (x y : Id) → is_eq (id_cmp x y) ≡ same_id x y
same_id-is_eq x y = grind (arith, nat_tests)

abbrev leads : Ranked → Bool
leads r = is_eq (id_cmp r.id r.leader)

module _ (ranks : List Rank) (i : ℕ) (d : Rank) (l : i < length ranks) where
  within : i < length (ranked_all ranks)
  within = omega (arith, length-map ranks ranked)

  here : get_or (ranked_all ranks) i (ranked d) ≡ ranked (get_or ranks i d)
  here = get_or-map ranked ranks i d (ranked d) l

  test : leads (get_or (ranked_all ranks) i (ranked d))
      ≡ same_id (get_or ranks i d).id (get_or ranks i d).leader
  test = ap leads here ∙ same_id-is_eq (get_or ranks i d).id (get_or ranks i d).leader

  pub ranked_ids-push : (ids : List Id) → ids ≡ ranked_ids (take i (ranked_all ranks))
      → ids ++ (get_or ranks i d).id ∷ [] ≡ ranked_ids (take (i + 1) (ranked_all ranks))
  ranked_ids-push ids old =
      ap (λ xs. xs ++ (get_or ranks i d).id ∷ []) old
      ∙ ap (λ (r : Ranked). ranked_ids (take i (ranked_all ranks)) ++ r.id ∷ []) (sym here)
      ∙ sym (map_more (λ (r : Ranked). r.id) (ranked_all ranks) i (ranked d) within)

  -- one more leader
  pub component_count-leader : same_id (get_or ranks i d).id (get_or ranks i d).leader ≡ true
      → component_count (take (i + 1) (ranked_all ranks))
      ≡ component_count (take i (ranked_all ranks)) + 1
  component_count-leader same =
      count_by_more_yes leads (ranked_all ranks) i (ranked d) within (test ∙ same)

  -- or no leader
  pub component_count-no_leader : same_id (get_or ranks i d).id (get_or ranks i d).leader ≡ false
      → component_count (take (i + 1) (ranked_all ranks))
      ≡ component_count (take i (ranked_all ranks))
  component_count-no_leader other = count_by_more_no leads (ranked_all ranks) i (ranked d) within
      (test ∙ other)
