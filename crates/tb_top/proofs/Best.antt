pub mod BestEnds
pub mod BestOutcomes
pub mod BestLineLemmas
pub mod BrokenGalleys
pub mod BestWriting
