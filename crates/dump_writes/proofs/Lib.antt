pub mod Reading
pub mod Writing
pub mod Counted
pub mod Shape
