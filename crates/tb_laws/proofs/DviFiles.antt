-- The DVI file of a run lists its pages, in reading order.
pub mod WritableNodes
pub mod WritableWorks
pub mod WritableRuns
pub mod WritablePages
