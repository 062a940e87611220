pub mod WhyGoing
pub mod WhyTurns
pub mod WhyOutcomes
pub mod WhyTrace
