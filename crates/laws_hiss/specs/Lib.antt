pub mod Chips
pub mod Played
