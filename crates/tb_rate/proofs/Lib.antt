pub mod PlaceLemmas
pub mod TriedLemmas
pub mod RunLemmas
pub mod RowLemmas
pub mod HeldLemmas
