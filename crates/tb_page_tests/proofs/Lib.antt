pub mod AccountLemmas
pub mod PlainLemmas
