-- DVI, in reading order.
pub mod DviSending
pub mod DviGoing
pub mod DviOutcomes
