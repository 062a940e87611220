mod WalkLemmas
mod CopyLemmas
mod BrokenLemmas
pub mod OrderLemmas
