pub mod LedActs
pub mod MakeupLeft
pub mod Makeup
pub mod MakeupPages
