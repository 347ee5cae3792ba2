pub mod Called
pub mod Digits
pub mod Hexes
