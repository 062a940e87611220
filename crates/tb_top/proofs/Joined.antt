-- The laws together, in reading order.
pub mod LawfulRuns
