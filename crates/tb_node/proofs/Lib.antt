mod Rows
pub mod StepLemmas
pub mod AddLemmas
pub mod NameBytes
pub mod NameMade
pub mod Weights
pub mod FitLemmas
pub mod SumLemmas
pub mod ExtentLemmas
