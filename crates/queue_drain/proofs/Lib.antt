pub mod Ruled
pub mod Resting
pub mod Draining
pub mod Storing
pub mod Kept
