pub mod Placed
pub mod Parts
pub mod OneMore
pub mod OneWrite
pub mod Alone
pub mod Stored
pub mod Rest
