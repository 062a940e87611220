-- A run is written, in reading order.
pub mod EventCounts
pub mod TallyLemmas
pub mod SentPages
pub mod KeptLemmas
pub mod GoingLemmas
pub mod TurnLemmas
pub mod FinishLemmas
pub mod FirstRuns
