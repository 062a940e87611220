pub mod Places
pub mod Walk
pub mod Plans
