-- A page ships, in reading order.
pub mod FiredLemmas
pub mod BackLemmas
pub mod ShipLemmas
