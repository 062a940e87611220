pub mod FromGalley
pub mod Filled
pub mod Shipping
pub mod Turns
