mod Rows
pub mod EachLemmas
pub mod BestLemmas
pub mod ScanLemmas
pub mod FindLemmas
pub mod StoreLemmas
pub mod PageTopLemmas
pub mod PlacesLemmas
pub mod LegalLemmas
pub mod LastLemmas
pub mod CostLemmas
