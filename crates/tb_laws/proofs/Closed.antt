-- What waits is well formed, and closes, in reading order.
pub mod Sorts
pub mod SortLemmas
pub mod BareFeet
pub mod PutLemmas
pub mod PlaceLemmas
pub mod Closings
pub mod ClosingPages
pub mod SparedLists
pub mod ServedLists
pub mod ClearPages
pub mod ClearedLists
pub mod ClosingStates
pub mod ClosingFirings
