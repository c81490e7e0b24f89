-- Laws of the gaps of a log.
use Rattle.std.specs.Prelude.{◌≡◌, ◌↔◌, ◌<◌, ◌≤◌, Bool, true, false, List, Contains, AllPairs}
use Rattle.epx_types.specs.declared.id.Id.{Id}
use Rattle.epx_types.specs.Ids.{IsRising}
use Rattle.epx_compare.specs.Gaps.{Gap, gaps_of}

-- the first instance of a gap
abbrev pub first_lacked : Gap → Id
first_lacked gap = record { replica = gap.replica; number = gap.from }

-- the last instance of a gap
abbrev pub last_lacked : Gap → Id
last_lacked gap = record { replica = gap.replica; number = gap.to }

-- x is an instance of the gap's replica, from its first number to its last, both included
abbrev pub IsInGap : Gap → Id → Type 0
IsInGap gap x = (x.replica ≡ gap.replica) × (gap.from ≤ x.number) × (x.number ≤ gap.to)

-- x is one of `ids`, and `has` is false of it: the log does not commit it
pub record IsLacked (has : Id → Bool) (ids : List Id) (x : Id) : Type 0 where
  pub among : Contains ids x
  pub lacks : has x ≡ false

-- the gap does not end before it begins, and its first and its last instance are lacked
pub record HasLackedEnds (has : Id → Bool) (ids : List Id) (gap : Gap) : Type 0 where
  pub upward : gap.from ≤ gap.to
  pub first : IsLacked has ids (first_lacked gap)
  pub last : IsLacked has ids (last_lacked gap)

-- x is one of `ids` that is not lacked, of the replica of gap g, after g and before gap h
pub record IsBetween (has : Id → Bool) (ids : List Id) (g h : Gap) (x : Id) : Type 0 where
  pub among : Contains ids x
  pub had : has x ≡ true
  pub replica : x.replica ≡ g.replica
  pub after : g.to < x.number
  pub before : x.number < h.from

-- of `ids` exactly those in a gap are lacked, and so are the ends of each gap; of two gaps of one
-- replica the first is the lower one, and some Id between them is not lacked
pub record AreGaps (has : Id → Bool) (ids : List Id) (gaps : List Gap) : Type 0 where
  pub lacked : (x : Id) → Contains ids x
      → (has x ≡ false) ↔ ((gap : Gap) × Contains gaps gap × IsInGap gap x)
  pub ends : (gap : Gap) → Contains gaps gap → HasLackedEnds has ids gap
  pub apart : AllPairs (λ g h. g.replica ≡ h.replica → (x : Id) × IsBetween has ids g h x) gaps

-- of rising Ids, `gaps_of` returns gaps of which `AreGaps` holds
abbrev pub GapsAreOfTheLacked : Type 0
GapsAreOfTheLacked = (has : Id → Bool) (ids : List Id) → IsRising ids
    → AreGaps has ids (gaps_of has ids)
