pub mod BestWays
pub mod Solutions
pub mod ChosenRows
pub mod LeastWays
pub mod LineSums
pub mod RunLemmas
pub mod Offers
pub mod ActiveBreaks
pub mod FloorSteps
pub mod WriteSteps
pub mod TableBack
pub mod CauseOrder
pub mod ReaderRuns
pub mod FieldReads
pub mod SameStep
pub mod AllWays
pub mod LeastOf
pub mod SolveSteps
pub mod ValidContents
pub mod ValidTexts
pub mod GalleyLines
pub mod Accepted
mod Rows
mod WorkedLines
pub mod LongTexts
