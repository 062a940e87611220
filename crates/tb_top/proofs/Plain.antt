-- Plain mode, in reading order.
pub mod MakeupStarts
pub mod MakeupTotals
pub mod MakeupGoing
pub mod MakeupClosing
pub mod MakeupOutcomes
pub mod MakeupOnce
