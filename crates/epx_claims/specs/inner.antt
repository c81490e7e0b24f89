-- Words of private clauses: no public contract speaks of them.
pub mod ClaimsFields
pub mod Rule
pub mod SeatFields
pub mod WorkResult
pub mod PieceItems
