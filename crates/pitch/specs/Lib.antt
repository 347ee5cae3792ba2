pub mod Pitch
pub mod Claims
