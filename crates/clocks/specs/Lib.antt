pub mod Range
pub mod Clocks
