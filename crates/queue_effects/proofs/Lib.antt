pub mod Counting
pub mod Front
