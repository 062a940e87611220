pub mod Rating
pub mod Places
pub mod Tries
pub mod RatedRun
pub mod RatingLines
pub mod Rows
