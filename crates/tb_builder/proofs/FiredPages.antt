-- The page that fires, in reading order.
pub mod FireLemmas
pub mod HeldLemmas
pub mod FiredCounts
pub mod PageWeights
