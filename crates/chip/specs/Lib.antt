pub mod Clocks
pub mod Range
