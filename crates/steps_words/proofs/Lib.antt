pub mod Cases
pub mod Playable
