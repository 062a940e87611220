-- The places of a page, in reading order.
pub mod ReachLemmas
pub mod PageLemmas
pub mod CourseLemmas
pub mod WithoutLemmas
pub mod ClassLemmas
pub mod ChargeLemmas
