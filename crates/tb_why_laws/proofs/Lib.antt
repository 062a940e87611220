pub mod OnePlace
pub mod InOrder
pub mod InTime
