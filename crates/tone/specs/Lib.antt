pub mod Tone
pub mod Range
