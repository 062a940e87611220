-- What holds at the ends, in reading order.
pub mod Outcomes
pub mod OutcomeCauses
pub mod CycleAnswers
