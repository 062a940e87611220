pub mod Run
pub mod Runnable
