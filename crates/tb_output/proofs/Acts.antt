-- Acts, in reading order.
pub mod StartLemmas
pub mod TakingLemmas
pub mod ActingLemmas
pub mod HeadLemmas
pub mod WarnLemmas
