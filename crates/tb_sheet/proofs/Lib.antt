pub mod PrintedSheets
pub mod ListsApart
pub mod StandLemmas
