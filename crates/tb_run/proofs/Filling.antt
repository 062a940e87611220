-- A page is filled, in reading order.
pub mod ProgressLemmas
pub mod ActedStates
pub mod ActingLemmas
pub mod ComingPages
pub mod ComingLemmas
pub mod AskLemmas
pub mod AskedCalls
pub mod MoreLemmas
pub mod FillingLemmas
pub mod FiringLemmas
pub mod PassingLemmas
pub mod SupplyingLemmas
