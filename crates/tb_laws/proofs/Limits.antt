-- Limits of areas, in reading order.
pub mod LimitLemmas
pub mod LimitedRuns
pub mod NumberLemmas
pub mod NumberedRuns
