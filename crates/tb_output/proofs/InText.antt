-- Floats and notes in the text, in reading order.
pub mod ShortenLemmas
pub mod ExtentLemmas
pub mod PushLemmas
pub mod BackLemmas
pub mod ListSteps
pub mod MarginSteps
pub mod CurrentFirst
pub mod TextSteps
