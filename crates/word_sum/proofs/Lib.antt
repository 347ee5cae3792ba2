pub mod Again
pub mod Summing
