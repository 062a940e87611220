pub mod LastDigit
pub mod LedDigits
pub mod NameLemmas
pub mod ValidLemmas
