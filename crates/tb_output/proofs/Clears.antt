-- Clears, in reading order.
pub mod NotedSteps
pub mod JoinLemmas
pub mod CompanyHeads
pub mod CompanyLemmas
pub mod ClearSteps
