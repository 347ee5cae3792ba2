pub mod Reached
pub mod Writes
pub mod Playing
