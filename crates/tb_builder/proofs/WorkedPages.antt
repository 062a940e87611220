-- Tests, in reading order.
pub mod WorkedLemmas
