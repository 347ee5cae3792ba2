pub mod Seeking
pub mod Values
