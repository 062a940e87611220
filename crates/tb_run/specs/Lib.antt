pub mod ServedStates
pub mod Routine
pub mod FilledPages
pub mod RoutinePages
pub mod TurnParts
pub mod UnlimitedPages
