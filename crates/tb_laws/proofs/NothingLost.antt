-- Nothing is lost, in reading order.
pub mod StateWeights
pub mod ColumnWeights
pub mod FloatWeights
pub mod PutOutWeights
pub mod TextWeights
pub mod WorkWeights
pub mod StartLemmas
pub mod RunWeights
pub mod LastLabels
pub mod ClosingStarts
pub mod ClosingActs
pub mod ClosingRuns
pub mod ClassLemmas
pub mod ShippedRuns
