-- Up to an event, and the whole page, in reading order.
pub mod FilledLemmas
pub mod NextLemmas
pub mod PagingLemmas
pub mod PassedLemmas
pub mod WalkLemmas
pub mod StillLemmas
pub mod SoFarLemmas
pub mod WholeLemmas
