-- What the steps of a firing are made of and leave, in reading order.
pub mod RefusedSteps
pub mod WorkSteps
pub mod ColumnSteps
pub mod FiringSteps
pub mod Moves
pub mod FiringTree
pub mod ClassBoxes
pub mod FollowLemmas
