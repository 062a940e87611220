mod Rows
pub mod Cubes
pub mod AmountLemmas
