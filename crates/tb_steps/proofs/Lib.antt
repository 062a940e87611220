pub mod RunParams
pub mod LedLemmas
pub mod RunTree
pub mod RunFolds
