pub mod Registers
pub mod Writes
pub mod Range
