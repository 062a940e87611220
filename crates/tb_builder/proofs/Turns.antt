-- One turn, in reading order.
pub mod MoveLemmas
pub mod StepLemmas
pub mod FreezingNodes
pub mod FreezeLemmas
pub mod MeetLemmas
pub mod FirstBoxLemmas
pub mod BehindLemmas
pub mod SteppedLemmas
pub mod FillLemmas
pub mod TurnLemmas
pub mod PastLemmas
pub mod TopLemmas
