pub mod OneWrite
pub mod Differing
pub mod Laws
