pub mod Passed
pub mod Courses
pub mod Waits
pub mod Full
pub mod Stops
pub mod Claimed
