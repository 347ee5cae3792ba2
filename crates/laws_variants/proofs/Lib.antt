pub mod Levels
pub mod Refused
pub mod Variants
pub mod Table
