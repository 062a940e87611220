-- No name in a run of a valid galley has a line feed.
pub mod CleanNodes
pub mod CleanWorks
pub mod CleanTales
pub mod CleanRuns
