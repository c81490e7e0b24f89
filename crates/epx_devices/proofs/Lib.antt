pub mod KnownBytesLemmas
pub mod TransferLemmas
pub mod EitherSourceLemmas
pub mod DeliveryLemmas
