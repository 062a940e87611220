-- A page is filled, in reading order.
pub mod RunLemmas
pub mod TriedLemmas
pub mod LedLemmas
pub mod HoldLemmas
pub mod MoreLemmas
pub mod ComingLemmas
pub mod FillLemmas
pub mod UnderwayLemmas
pub mod SupplyingLemmas
pub mod PassingLemmas
