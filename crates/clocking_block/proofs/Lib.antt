pub mod Quiet
pub mod Filling
pub mod Joined
pub mod Slots
