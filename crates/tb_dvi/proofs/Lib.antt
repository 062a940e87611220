pub mod Rows
pub mod LawLemmas
pub mod FileLaw
pub mod ByteLemmas
pub mod JoinedTexts
pub mod NearLemmas
pub mod NumberLemmas
pub mod PlacementLemmas
pub mod PageLemmas
pub mod BoundLemmas
pub mod StepLemmas
pub mod ListLemmas
pub mod ProgressLemmas
mod RunLemmas
pub mod FrontLemmas
