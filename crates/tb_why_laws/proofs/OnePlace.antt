-- Each float is in one place at most, in reading order.
pub mod WaitingLines
pub mod Once
pub mod OnceMoves
pub mod OnceLists
pub mod OnceStarts
pub mod OnceStates
pub mod CallWeights
pub mod ActedLists
pub mod CalledLater
pub mod OutCalls
pub mod AfterCalls
