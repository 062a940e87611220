pub mod Commands
pub mod Counts
mod WordsRows
