pub mod Bytes
pub mod Lines
