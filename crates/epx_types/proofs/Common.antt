-- The names that the crates above cite, of this crate and of the kit, passed on from one place.
-- Declares nothing.
pub use Rattle.epx_types.specs.between.Accesses.{access_of, accesses_in}
pub use Rattle.epx_types.specs.Agreement.{Agree, Differ, IsFirstDisagreement}
pub use Rattle.epx_types.specs.CommandKeys.{accesses_of, touched_by, touched_keys, written_by}
pub use Rattle.epx_types.specs.CommandKeys.{written_keys}
pub use Rattle.epx_types.specs.Commands.{Outcome, command_on, operate_all, unless_aborted}
pub use Rattle.epx_types.specs.CommittedMap.{IsCommitted, IsCommittedBy, commands_in, ids_of}
pub use Rattle.epx_types.specs.CommittedMap.{instance_of, ops_or_empty, position_of}
pub use Rattle.epx_types.specs.Components.{InOneComponent, IsLeader}
pub use Rattle.epx_types.specs.Conflicts.{Conflict, IsCovered, NoneConflict}
pub use Rattle.epx_types.specs.Contents.{Contents, amount_at, assign}
pub use Rattle.epx_types.specs.Depth.{Descends, IsDepth}
pub use Rattle.epx_types.specs.Done.{is_among, remaining, remaining_ids, without_deps}
pub use Rattle.epx_types.specs.Execution.{Execution, execute}
pub use Rattle.epx_types.specs.ExecutionOrder.{IsExecutionOrder, IsRanked, Ranked, RanksBelow}
pub use Rattle.epx_types.specs.ExecutionOrder.{component_count, rank_cmp, ranked_ids}
pub use Rattle.epx_types.specs.Faults.{fault_status, id_text}
pub use Rattle.epx_types.specs.Ids.{Below, BelowAll, IsRising, UpTo, id_cmp}
pub use Rattle.epx_types.specs.Instances.{Instance, IsWellFormed}
pub use Rattle.epx_types.specs.KeyHeads.{AreBytes, head_of}
pub use Rattle.epx_types.specs.Keys.{FitsKey, add_keys, key_cmp, rising_keys}
pub use Rattle.epx_types.specs.LawfulOrders.{Before, IsLawful, IsLawfulFor, SequenceBefore}
pub use Rattle.epx_types.specs.LawfulPrefixes.{IsLawfulPrefix}
pub use Rattle.epx_types.specs.Levels.{AreLevels, Climbs, ConflictAt, IsLevel, level_count}
pub use Rattle.epx_types.specs.Levels.{level_positions}
pub use Rattle.epx_types.specs.Limits.{max_instances, max_log_bytes, max_logs}
pub use Rattle.epx_types.specs.Operations.{fits_i64, operate, same_value}
pub use Rattle.epx_types.specs.Pieces.{PlanNumbers, piece_count, piece_end, piece_start}
pub use Rattle.epx_types.specs.PlacedLines.{Earlier, HaveDistinctPlaces, Placed}
pub use Rattle.epx_types.specs.Reaching.{DependsOn, IsPath, Reaches}
pub use Rattle.epx_types.specs.Readiness.{IsReady, WaitsFor}
pub use Rattle.epx_types.specs.Rearrangements.{IsRearrangement, commands_at}
pub use Rattle.epx_types.specs.SmallLists.{items_of}
pub use Rattle.epx_types.specs.Sound.{HasRemaining, IsSound}
pub use Rattle.epx_types.specs.WaitingLists.{IsWaitingList, Waiting, waiting_ids}
pub use Rattle.epx_types.specs.Writes.{HasDistinctKeys, apply_writes, writes_by, writes_of}
pub use Rattle.std.specs.BTreeMap.{BTreeMap, IsOrdered, get, is_at}
pub use Rattle.std.specs.BTreeSet.{insert_key}
pub use Rattle.std.specs.Bool.{Decides}
pub use Rattle.std.specs.Cmp.{Equal-is, IsEquivalence, nat_cmp_is, nat_cmp_total}
pub use Rattle.std.specs.FinMap.{FinMap, entries_sorted, get-empty, get-entries, get-from_entries}
pub use Rattle.std.specs.FinMap.{is_sorted}
pub use Rattle.std.specs.FinMap.Entries.{below_all}
pub use Rattle.std.specs.Int.{bit_at, w64}
pub use Rattle.std.specs.Io.KnownBytes.{Appends, Consumes, IsAtEnd, Keeps}
pub use Rattle.std.specs.List.{All, AllByRecursion, AllZip, IsDistinct, concat, flat_map, fold}
pub use Rattle.std.specs.List.{list_all, list_any}
pub use Rattle.std.specs.List.Sorted.{IsPermutation, IsSorted}
pub use Rattle.std.specs.Map.{keys_of, lookup}
pub use Rattle.std.specs.Option.{IsSome, option_map_or}
pub use Rattle.std.specs.Ordering.{eq_by_cmp, is_eq, is_lt, match_ordering, nat_cmp}
pub use Rattle.std.specs.Ordering.{ordering_reverse, ordering_then}
pub use Rattle.std.specs.Prelude.{IfErr, IsErr, MatchResult, OnOk, string_bytes, ⊤}
pub use Rattle.std.specs.Str.{bytes_eq, is_utf8}
pub use Rattle.std.specs.Str.Parse.{ParsesUnsigned}
pub use Rattle.std.specs.declared.alloc.Global.{Global}
pub use Rattle.std.specs.declared.cmp.Ordering.TheVariants.{Equal, Greater, Less}
pub use Rattle.std.specs.declared.hash.DefaultHasher.{DefaultHasher}
pub use Rattle.epx_types.proofs.commands.CommandLemmas.{after-abort, apply_writes-writes_of}
pub use Rattle.epx_types.proofs.commands.CommandLemmas.{command_on-HasSameOutcome, reply-abort}
pub use Rattle.epx_types.proofs.commands.CommandLemmas.{writes_of-abort, writes_of-alike}
pub use Rattle.epx_types.proofs.commands.CommandLemmas.{writes_of-distinct, writes_of-written}
pub use Rattle.epx_types.proofs.commands.CommandLemmas.{written_keys-touched, written_keys-or_same}
pub use Rattle.epx_types.proofs.commands.ConflictLemmas.{Conflict-symm, after-exchanged}
pub use Rattle.epx_types.proofs.commands.ConflictLemmas.{reply-no_conflict}
pub use Rattle.epx_types.proofs.commands.ConflictListLemmas.{distinct_keys-none_conflict}
pub use Rattle.epx_types.proofs.commands.ConflictListLemmas.{final-none_conflict}
pub use Rattle.epx_types.proofs.commands.ConflictListLemmas.{replies-none_conflict, writes_over}
pub use Rattle.epx_types.proofs.commands.ContentsLemmas.{get-assign, get-assign_agree}
pub use Rattle.epx_types.proofs.commands.ContentsLemmas.{get-assign_cases, Contents-extensional}
pub use Rattle.epx_types.proofs.commands.EqualityLemmas.{id_eq-Decides, id_eq-sym, op_eq-Decides}
pub use Rattle.epx_types.proofs.commands.ExecutionLemmas.{execute-append, length-replies}
pub use Rattle.epx_types.proofs.commands.RearrangedListLemmas.{IsRearranged, Once}
pub use Rattle.epx_types.proofs.commands.RearrangedListLemmas.{execute-rearranged}
pub use Rattle.epx_types.proofs.commands.RearrangementLemmas.{AllPairs-Precedes}
pub use Rattle.epx_types.proofs.commands.RearrangementLemmas.{Contains-list_positions}
pub use Rattle.epx_types.proofs.commands.RearrangementLemmas.{Once-from_AllPairs}
pub use Rattle.epx_types.proofs.commands.RearrangementLemmas.{Precedes-from_Before}
pub use Rattle.epx_types.proofs.commands.RearrangementLemmas.{final-rearranged, list_positions}
pub use Rattle.epx_types.proofs.commands.RearrangementLemmas.{replies-rearranged, reply-rearranged}
pub use Rattle.epx_types.proofs.commands.WriteLemmas.{apply_writes-append, get-put_entries}
pub use Rattle.epx_types.proofs.commands.WriteLemmas.{put_entries-insert, apply_writes-read_back}
pub use Rattle.epx_types.proofs.committed.AgreementLemmas.{IsCommittedBy-Agree}
pub use Rattle.epx_types.proofs.committed.AgreementLemmas.{IsCommittedBy-unique}
pub use Rattle.epx_types.proofs.committed.AgreementLemmas.{IsFirstDisagreement-not_Agree}
pub use Rattle.epx_types.proofs.committed.AgreementLemmas.{IsFirstDisagreement-unique}
pub use Rattle.epx_types.proofs.committed.AgreementLemmas.{IsRising-same, instance_of-finds}
pub use Rattle.epx_types.proofs.committed.AgreementLemmas.{instance_of-found}
pub use Rattle.epx_types.proofs.committed.AgreementLemmas.{instance_of-iff_contains}
pub use Rattle.epx_types.proofs.committed.PositionLemmas.{instance_of-position, position_of-found}
pub use Rattle.epx_types.proofs.committed.PositionLemmas.{position_of-instance, position_of-within}
pub use Rattle.epx_types.proofs.graph.DependencyLemmas.{DependsOn-committed, DependsOn-listed}
pub use Rattle.epx_types.proofs.graph.DependencyLemmas.{IsCommitted-from_Contains}
pub use Rattle.epx_types.proofs.graph.ReachingDecisionLemmas.{Contains-within_reach}
pub use Rattle.epx_types.proofs.graph.ReachingDecisionLemmas.{DependsOn-cases, InOneComponent-cases}
pub use Rattle.epx_types.proofs.graph.ReachingDecisionLemmas.{Reaches-cases, Reaches-committed}
pub use Rattle.epx_types.proofs.graph.ReachingDecisionLemmas.{both-cases, negation-cases}
pub use Rattle.epx_types.proofs.graph.ReachingDecisionLemmas.{within_reach}
pub use Rattle.epx_types.proofs.graph.ReachingLemmas.{InOneComponent-refl, InOneComponent-symm}
pub use Rattle.epx_types.proofs.graph.ReachingLemmas.{InOneComponent-trans, IsDepth-along}
pub use Rattle.epx_types.proofs.graph.ReachingLemmas.{IsDepth-falls, IsDepth-least, IsDepth-unique}
pub use Rattle.epx_types.proofs.graph.ReachingLemmas.{IsLeader-along, IsLeader-unique}
pub use Rattle.epx_types.proofs.graph.ReachingLemmas.{IsReady-not_waiting, IsReady-reached}
pub use Rattle.epx_types.proofs.graph.ReachingLemmas.{Reaches-dependency, Reaches-passes}
pub use Rattle.epx_types.proofs.graph.ReachingLemmas.{Reaches-refl, Reaches-trans, UpTo-antisymm}
pub use Rattle.epx_types.proofs.graph.ReachingLemmas.{WaitsFor-unique}
pub use Rattle.epx_types.proofs.graph.WaitingLemmas.{Below-parts, Contains-Id_cases, Id-cases}
pub use Rattle.epx_types.proofs.graph.WaitingLemmas.{IsReady-from_no_wait, IsReady-none_missing}
pub use Rattle.epx_types.proofs.graph.WaitingListLemmas.{IsWaitingList-unique}
pub use Rattle.epx_types.proofs.keys.KeyHeadLemmas.{slice_cmp-by_heads}
pub use Rattle.epx_types.proofs.keys.KeyListLemmas.{AllPairs-rising_keys, Contains-from_rising_keys}
pub use Rattle.epx_types.proofs.keys.KeyListLemmas.{Contains-rising_keys, add_keys-append}
pub use Rattle.epx_types.proofs.keys.KeyListLemmas.{key_cmp-cases, key_cmp-IsAntisymmetric}
pub use Rattle.epx_types.proofs.keys.KeyListLemmas.{key_cmp-IsTotalOrder}
pub use Rattle.epx_types.proofs.keys.SortedEntryLemmas.{entries-empty, entries-from_entries}
pub use Rattle.epx_types.proofs.keys.SortedEntryLemmas.{find-below_all, and-first}
pub use Rattle.epx_types.proofs.keys.SortedEntryLemmas.{insert_all-from_entries, keys_of-put}
pub use Rattle.epx_types.proofs.keys.SortedEntryLemmas.{Less-from_is_lt, eq_by_cmp-same_key}
pub use Rattle.epx_types.proofs.keys.SortedEntryLemmas.{and-second}
pub use Rattle.epx_types.proofs.keys.SortedEntryLemmas.{write_all}
pub use Rattle.epx_types.proofs.levels.LevelExistenceLemmas.{Conflict-cases, AreLevels-exists}
pub use Rattle.epx_types.proofs.levels.LevelLemmas.{AreLevels-push, AreLevels-unique, IsLevel-least}
pub use Rattle.epx_types.proofs.levels.LevelLemmas.{IsLevel-no_conflict, IsLevel-rises}
pub use Rattle.epx_types.proofs.levels.LevelLemmas.{IsLevel-unique, each_level-reached}
pub use Rattle.epx_types.proofs.levels.LevelLemmas.{level_count-least}
pub use Rattle.epx_types.proofs.levels.LevelOrderLemmas.{Contains-by_level, Contains-from_by_level}
pub use Rattle.epx_types.proofs.levels.LevelOrderLemmas.{Contains-from_level_positions}
pub use Rattle.epx_types.proofs.levels.LevelOrderLemmas.{Contains-level_positions, by_level}
pub use Rattle.epx_types.proofs.levels.LevelOrderLemmas.{by_level-distinct, by_level-rearranges}
pub use Rattle.epx_types.proofs.levels.LevelOrderLemmas.{length-level_positions, level-no_conflict}
pub use Rattle.epx_types.proofs.levels.LevelOrderLemmas.{level_positions-rising, levels-climb}
pub use Rattle.epx_types.proofs.levels.LevelPositionLemmas.{fold-level_count}
pub use Rattle.epx_types.proofs.levels.LevelPositionLemmas.{level_count-above_each}
pub use Rattle.epx_types.proofs.lists.BeforeLemmas.{Before-across, Before-append_left}
pub use Rattle.epx_types.proofs.lists.BeforeLemmas.{Before-append_right, Before-filter}
pub use Rattle.epx_types.proofs.lists.BeforeLemmas.{Before-from_Precedes, slice_get-append_left}
pub use Rattle.epx_types.proofs.lists.ComparisonLemmas.{ordering_then-first_equal, id_cmp-Decides}
pub use Rattle.epx_types.proofs.lists.ComparisonLemmas.{id_cmp-IsAntisymmetric, id_cmp-IsTotalOrder}
pub use Rattle.epx_types.proofs.lists.ComparisonLemmas.{place_cmp-IsTotalOrder}
pub use Rattle.epx_types.proofs.lists.ComparisonLemmas.{rank_cmp-IsTotalOrder}
pub use Rattle.epx_types.proofs.lists.ComparisonLemmas.{ordering_then-second_equal}
pub use Rattle.epx_types.proofs.lists.IdListLemmas.{IsRising-from_strict}
pub use Rattle.epx_types.proofs.lists.ListPositionLemmas.{AllPairs-append, AllPairs-first}
pub use Rattle.epx_types.proofs.lists.ListPositionLemmas.{AllPairs-from_parts}
pub use Rattle.epx_types.proofs.lists.ListPositionLemmas.{AllPairs-from_slice_get, AllPairs-head}
pub use Rattle.epx_types.proofs.lists.ListPositionLemmas.{AllPairs-slice_get, AllPairs-tail}
pub use Rattle.epx_types.proofs.lists.ListPositionLemmas.{Contains-slice_get}
pub use Rattle.epx_types.proofs.lists.ListPositionLemmas.{slice_get-from_Contains}
pub use Rattle.epx_types.proofs.lists.ListPositionLemmas.{slice_get-from_map}
pub use Rattle.epx_types.proofs.lists.MembershipLemmas.{Contains-cons, Contains-cons_cases}
pub use Rattle.epx_types.proofs.lists.MembershipLemmas.{Contains-filter, Contains-flat_map}
pub use Rattle.epx_types.proofs.lists.MembershipLemmas.{Contains-from_filter}
pub use Rattle.epx_types.proofs.lists.MembershipLemmas.{Contains-from_flat_map, Contains-from_map}
pub use Rattle.epx_types.proofs.lists.MembershipLemmas.{Contains-head, Contains-map, Contains-nil}
pub use Rattle.epx_types.proofs.lists.MembershipLemmas.{agree-from_map, map-agree}
pub use Rattle.epx_types.proofs.lists.MembershipLemmas.{passes-from_filter}
pub use Rattle.epx_types.proofs.lists.PieceLemmas.{piece_count-above, piece_end-after_start}
pub use Rattle.epx_types.proofs.lists.PieceLemmas.{piece_end-last, piece_end-next}
pub use Rattle.epx_types.proofs.lists.PieceLemmas.{piece_end-within_cut, piece_start-for_item}
pub use Rattle.epx_types.proofs.lists.RisingIdLemmas.{AllPairs-from_IsRising}
pub use Rattle.epx_types.proofs.lists.RisingIdLemmas.{AllPairs-from_rising_ids, BelowAll-from_each}
pub use Rattle.epx_types.proofs.lists.RisingIdLemmas.{BelowAll-trans, IsRising-from_AllPairs}
pub use Rattle.epx_types.proofs.lists.RisingIdLemmas.{IsRising-from_neighbours, IsRising-push}
pub use Rattle.epx_types.proofs.lists.RisingIdLemmas.{AllPairs-rising_distinct}
pub use Rattle.epx_types.proofs.lists.RisingIdLemmas.{slice_get-rising_is_unique}
pub use Rattle.epx_types.proofs.lists.RisingIdLemmas.{Below-by_position, IsRising-is_unique}
pub use Rattle.epx_types.proofs.lists.RisingListLemmas.{AreThose, AreThose-exists}
pub use Rattle.epx_types.proofs.lists.SearchLemmas.{IsLeastOf-or_none, is_some-false}
pub use Rattle.epx_types.proofs.lists.SearchLemmas.{Contains-some_or_none}
pub use Rattle.epx_types.proofs.lists.SearchLemmas.{is_some-true}
pub use Rattle.epx_types.proofs.lists.TotalOrderLemmas.{Less-is_lt, is_lt-asymm, is_lt-cases}
pub use Rattle.epx_types.proofs.lists.TotalOrderLemmas.{is_lt-irrefl, is_lt-trans}
pub use Rattle.epx_types.proofs.lists.TotalOrderLemmas.{AllPairs-is_unique}
pub use Rattle.epx_types.proofs.orders.ExecutionOrderLemmas.{Before-from_rank}
pub use Rattle.epx_types.proofs.orders.ExecutionOrderLemmas.{IsExecutionOrder-IsLawful}
pub use Rattle.epx_types.proofs.orders.ExecutionOrderLemmas.{IsExecutionOrder-leaders}
pub use Rattle.epx_types.proofs.orders.ExecutionOrderLemmas.{IsExecutionOrder-once}
pub use Rattle.epx_types.proofs.orders.ExecutionOrderLemmas.{IsExecutionOrder-ranked}
pub use Rattle.epx_types.proofs.orders.ExecutionOrderLemmas.{IsExecutionOrder-unique}
pub use Rattle.epx_types.proofs.orders.ExecutionOrderLemmas.{IsRanked-unique}
pub use Rattle.epx_types.proofs.orders.LawfulExecutionLemmas.{final-lawful, reply-lawful}
pub use Rattle.epx_types.proofs.orders.LawfulExecutionLemmas.{map-of_replies}
pub use Rattle.epx_types.proofs.orders.LawfulOrderLemmas.{Before-alike_reached}
pub use Rattle.epx_types.proofs.orders.LawfulOrderLemmas.{Before-alike_reaching, Before-cases}
pub use Rattle.epx_types.proofs.orders.LawfulOrderLemmas.{Before-differ, Before-in_first}
pub use Rattle.epx_types.proofs.orders.LawfulOrderLemmas.{Before-in_second, Before-not_both}
pub use Rattle.epx_types.proofs.orders.LawfulOrderLemmas.{slice_get-is_unique}
pub use Rattle.epx_types.proofs.orders.LawfulOrderLemmas.{sequence_cmp-IsTotalOrder}
pub use Rattle.epx_types.proofs.orders.LawfulPartLemmas.{IsLawful-part_and_rest, IsLawfulFor-same}
pub use Rattle.epx_types.proofs.orders.LawfulPartLemmas.{IsLawfulFor-together, remaining_ids-apart}
pub use Rattle.epx_types.proofs.orders.LawfulPartLemmas.{is_among-passes_rest}
pub use Rattle.epx_types.proofs.orders.OrderExistenceLemmas.{IsExecutionOrder-exists}
pub use Rattle.epx_types.proofs.orders.OrderExistenceLemmas.{IsWaitingList-exists}
pub use Rattle.epx_types.proofs.orders.OrderLengthLemmas.{length-at_most, IsExecutionOrder-length}
pub use Rattle.epx_types.proofs.orders.RankExistenceLemmas.{IsDepth-exists, IsLeader-exists}
pub use Rattle.epx_types.proofs.orders.RankExistenceLemmas.{IsReady-or_waits}
pub use Rattle.epx_types.proofs.remaining.RemainingCommandLemmas.{commands-left, length-remaining}
pub use Rattle.epx_types.proofs.remaining.RemainingLemmas.{Contains-remaining_iff}
pub use Rattle.epx_types.proofs.remaining.RemainingLemmas.{DependsOn-remaining, IsRising-remaining}
pub use Rattle.epx_types.proofs.remaining.RemainingLemmas.{remaining-from_map, is_among-cases}
pub use Rattle.epx_types.proofs.remaining.RemainingLemmas.{is_among-false, is_among-excludes}
pub use Rattle.epx_types.proofs.remaining.RemainingLemmas.{remaining-nil}
pub use Rattle.epx_types.proofs.remaining.RemainingPositionLemmas.{Contains-left, remaining-more}
pub use Rattle.epx_types.proofs.remaining.RemainingPositionLemmas.{remaining-position}
pub use Rattle.epx_types.proofs.remaining.RemainingPositionLemmas.{remaining-skip}
pub use Rattle.epx_types.proofs.remaining.ResumedExecutionLemmas.{IsSound-final}
pub use Rattle.epx_types.proofs.remaining.ResumedExecutionLemmas.{IsSound-nothing_done}
pub use Rattle.epx_types.proofs.remaining.ResumedExecutionLemmas.{IsSound-part, IsSound-resumed}
pub use Rattle.epx_types.proofs.remaining.ResumedExecutionLemmas.{final-resumed, reply-resumed}
pub use Rattle.epx_types.proofs.remaining.ResumedMapLemmas.{IsLawfulAfter-left, IsReady-in_whole}
pub use Rattle.epx_types.proofs.remaining.ResumedMapLemmas.{commands_in-left}
pub use Rattle.std.proofs.Math.Seq.{drop-append-add, drop-cons, get_or-append_seam}
pub use Rattle.std.proofs.Math.Seq.{take-append_seam, take-length}
pub use Rattle.std.proofs.lemmas.Bool.{and_parts, cases_Bool, cases_eq, cases_lt, eqb-true}
pub use Rattle.std.proofs.lemmas.Bool.{false≢true}
pub use Rattle.std.proofs.lemmas.Bool.Decides.{eqb_tells, nat_tests}
pub use Rattle.std.proofs.lemmas.Fmt.{length-decimal-le}
pub use Rattle.std.proofs.lemmas.Grind.{common_steps}
pub use Rattle.std.proofs.lemmas.List.{append-nil, append_assoc, drop-append-le, drop-drop}
pub use Rattle.std.proofs.lemmas.List.{drop_all, drop_at, drop_more, flat_map_more, get_or-drop}
pub use Rattle.std.proofs.lemmas.List.{get_or-replicate, get_or-set_other, get_or-set_same}
pub use Rattle.std.proofs.lemmas.List.{get_or-take, get_or_append_left, get_or_default, get_or_past}
pub use Rattle.std.proofs.lemmas.List.{get_or_push, get_or_read, length-append, length-drop}
pub use Rattle.std.proofs.lemmas.List.{length-map, length-replicate, length-set, length-take}
pub use Rattle.std.proofs.lemmas.List.{length-take-le, length_push, map-append, map_push}
pub use Rattle.std.proofs.lemmas.List.{nil_from_length, take-append-drop, take-append-le, take_all}
pub use Rattle.std.proofs.lemmas.List.{take_at, take_more, take_more_set, with_items_is}
pub use Rattle.std.proofs.lemmas.List.Elements.{All-append, All-cons, All-contains}
pub use Rattle.std.proofs.lemmas.List.Elements.{All-contains_itself, All-from_get_or}
pub use Rattle.std.proofs.lemmas.List.Elements.{All-from_recursion, All-get_or, All-head, All-nil}
pub use Rattle.std.proofs.lemmas.List.Elements.{All-pop, All-push, All-tail, All-weaker}
pub use Rattle.std.proofs.lemmas.List.Elements.{Contains-append_cases, Contains-append_left}
pub use Rattle.std.proofs.lemmas.List.Elements.{Contains-append_right, Contains-get_or}
pub use Rattle.std.proofs.lemmas.List.Elements.{Contains-push, Contains-push_cases, filter-append}
pub use Rattle.std.proofs.lemmas.List.Folds.{drop_split}
pub use Rattle.std.proofs.lemmas.List.Kept.{AllPairs-filter}
pub use Rattle.std.proofs.lemmas.List.Quantifiers.{all_pairs_push}
pub use Rattle.std.proofs.lemmas.List.Sorted.{Contains-permutation, IsPermutation-append_right}
pub use Rattle.std.proofs.lemmas.List.Sorted.{IsPermutation-map, IsPermutation-refl}
pub use Rattle.std.proofs.lemmas.List.Sorted.{IsPermutation-sym, IsPermutation-trans, ranks_by}
pub use Rattle.std.proofs.lemmas.List.Sorted.{sorted_far}
pub use Rattle.std.proofs.lemmas.List.Sums.{count_by-le-length, count_by_more_no, count_by_more_yes}
pub use Rattle.std.proofs.lemmas.List.Sums.{sum_by-cons}
pub use Rattle.std.proofs.lemmas.Map.Keys.{IsDistinct-IsPermutation}
pub use Rattle.std.proofs.lemmas.Map.Made.{AllPairs-from_IsDistinct, IsDistinct-from_AllPairs}
pub use Rattle.std.proofs.lemmas.Map.Views.{Contains-from_any, list_any-from_Contains}
pub use Rattle.std.proofs.lemmas.Option.{IfSome_then, get_or_from_slice_get, slice_get-get_or}
pub use Rattle.std.proofs.lemmas.Option.{slice_get_read, slice_get_within}
pub use Rattle.std.proofs.lemmas.Result.{IfOk-at_ok, IfOk-weaker, MatchResult-weaker, on_ok_weaker}
pub use Rattle.std.proofs.lemmas.Simd.{map-map}
pub use Rattle.std.proofs.lemmas.Slice.Eq.{bytes_eq-Decides}
