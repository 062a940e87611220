-- What is shown is in order, in reading order.
pub mod FitLemmas
pub mod DecisionLemmas
pub mod ColumnTales
pub mod ShowLemmas
pub mod PlacingLemmas
pub mod StandLemmas
pub mod PageTales
pub mod ClearTales
pub mod CallTales
pub mod FiringTales
pub mod RunTales
