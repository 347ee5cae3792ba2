pub mod Places
pub mod Circling
