pub mod Envelope
pub mod Range
pub mod Course
