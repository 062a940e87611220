pub mod DeferredLemmas
pub mod ChoiceLemmas
pub mod LawLemmas
pub mod DeferredWalks
pub mod OrderLemmas
pub mod FullLemmas
pub mod FirstWalks
