pub mod Flushing
pub mod Applying
