-- Where pages break that laws speak of, in reading order.
pub mod FittingPages
pub mod FittingFired
pub mod PausedPages
pub mod GuardedPages
