pub mod Stepping
pub mod Wording
