-- A map has at most one waiting list.
use Rattle.std.proofs.Common.{◌≡◌, List, Contains}
use Rattle.epx_types.specs.Instances.{Instance}
use Rattle.epx_types.specs.Ids.{Below}
use Rattle.epx_types.specs.WaitingLists.{Waiting, IsWaitingList}
use Rattle.epx_types.proofs.lists.RisingIdLemmas.{AllPairs-from_rising_ids}
use Rattle.epx_types.proofs.lists.TotalOrderLemmas.{is_lt-irrefl, is_lt-trans, AllPairs-is_unique}
use Rattle.epx_types.proofs.lists.ComparisonLemmas.{id_cmp-IsTotalOrder}

module _ (m : List Instance) where
  -- an element of one waiting list is in each
  IsWaitingList-contains : (ws vs : List Waiting) → IsWaitingList m ws → IsWaitingList m vs
      → (w : Waiting) → Contains ws w → Contains vs w
  IsWaitingList-contains ws vs p q w h = q.whole w.id w.missing (p.waits w h)

  -- two waiting lists of one map are equal
  pub IsWaitingList-unique : (ws vs : List Waiting) → IsWaitingList m ws → IsWaitingList m vs
      → ws ≡ vs
  IsWaitingList-unique ws vs p q =
      AllPairs-is_unique (λ a b. Below a.id b.id) (λ w. is_lt-irrefl id_cmp-IsTotalOrder w.id)
      (λ a b c. is_lt-trans id_cmp-IsTotalOrder a.id b.id c.id)
      ws vs (AllPairs-from_rising_ids (λ w. w.id) ws p.rising)
      (AllPairs-from_rising_ids (λ w. w.id) vs q.rising)
      (IsWaitingList-contains ws vs p q) (IsWaitingList-contains vs ws q p)
