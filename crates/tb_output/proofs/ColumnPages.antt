-- Columns and pages, in reading order.
pub mod ParamLemmas
pub mod SizeLemmas
pub mod ShipLemmas
pub mod PuttingOut
pub mod PairLemmas
pub mod FloatPages
pub mod FloatTurns
pub mod FloatMoves
pub mod FillLemmas
pub mod StepsInTurn
pub mod StandingBoxes
pub mod TakingText
