-- The text ships in order, in reading order.
pub mod PrintedFirings
pub mod PrintedOutput
