-- A turn, in reading order.
pub mod TurnedLemmas
pub mod TurnLemmas
pub mod DoneLemmas
