mod RowLemmas
mod RowAppendLemmas
mod SlotLemmas
mod SlotCountLemmas
mod TransposeLemmas
mod PositionGroupLemmas
