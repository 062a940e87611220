-- A turn, in reading order.
pub mod HappenedLemmas
pub mod CountedLemmas
pub mod WholeLemmas
pub mod ServingLemmas
pub mod DoneLemmas
pub mod BeginLemmas
pub mod TurnLemmas
pub mod CopyLemmas
pub mod PartLemmas
pub mod UnlimitedLemmas
