-- Everything ships once, in reading order.
pub mod ShippedCounts
pub mod ShippedLines
pub mod PrintedRuns
pub mod OnceLemmas
pub mod CountLemmas
pub mod ShippedOnce
pub mod ShippedTotals
