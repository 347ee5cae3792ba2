pub mod Steps
pub mod Ranged
pub mod Listed
