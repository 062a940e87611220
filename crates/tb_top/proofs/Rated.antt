pub mod RatedGoing
pub mod RatedTurns
pub mod RatedColumns
pub mod RatedOutcomes
