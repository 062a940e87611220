-- The nodes of a galley, in reading order.
pub mod ItemLemmas
pub mod LeftLemmas
pub mod StartLemmas
pub mod BeginLemmas
