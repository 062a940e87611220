-- A run is defined for every galley, in reading order.
pub mod FuelLemmas
