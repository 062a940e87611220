pub mod Totals
pub mod DviPages
pub mod DviFiles
pub mod Laws
pub mod AreaNumbers
pub mod DeadCycles
pub mod Firings
pub mod PlanLaws
