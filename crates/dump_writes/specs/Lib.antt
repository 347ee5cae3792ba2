pub mod Writes
pub mod Shape
