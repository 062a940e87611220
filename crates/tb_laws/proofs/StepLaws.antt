-- What the steps of a firing keep, in reading order.
pub mod TurnLemmas
pub mod SentCounts
pub mod BreakSorts
pub mod QuietLemmas
pub mod WideLemmas
pub mod SideLemmas
pub mod SideSteps
pub mod StandingNotes
