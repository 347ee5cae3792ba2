pub mod Makings
pub mod Cases
