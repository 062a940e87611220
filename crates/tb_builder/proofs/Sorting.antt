-- Insertions go to their boxes, in reading order.
pub mod PlaceLemmas
pub mod ShareLemmas
pub mod OpenLemmas
pub mod GiveLemmas
pub mod RestLemmas
pub mod SettleLemmas
pub mod SortLemmas
pub mod LastLemmas
pub mod SortingLemmas
