pub mod Ticking
pub mod Adding
pub mod Ranging
