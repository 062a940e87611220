pub mod WholeRuns
pub mod OneColumn
