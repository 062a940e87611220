-- Whose list is it, in reading order.
pub mod SizeLemmas
pub mod StoreMoves
pub mod StoreSized
pub mod ClassPlaceLemmas
pub mod OwnedLemmas
pub mod RelistLemmas
pub mod SpareLemmas
pub mod FrameLemmas
pub mod NewLemmas
pub mod LackLemmas
