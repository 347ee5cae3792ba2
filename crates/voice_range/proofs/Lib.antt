pub mod Bytes
pub mod InRange
