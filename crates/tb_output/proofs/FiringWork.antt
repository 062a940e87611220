-- How calls follow one another, in reading order.
pub mod ResultLemmas
pub mod ApartLemmas
pub mod KeepLemmas
pub mod WorkingLemmas
pub mod StepLemmas
pub mod StandLemmas
pub mod BesideLemmas
pub mod BuilderLemmas
