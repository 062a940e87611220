pub mod CompanyLemmas
pub mod LawLemmas
pub mod WalkLemmas
pub mod FirstLemmas
pub mod ChoiceLemmas
pub mod MarkingLemmas
pub mod FullLemmas
pub mod FirstHeads
