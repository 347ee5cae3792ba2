pub mod Generators
pub mod Reset
pub mod Range
