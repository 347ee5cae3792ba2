pub mod OneWrite
pub mod DueWrites
pub mod OneWord
pub mod Playing
pub mod Captures
