pub mod Accepted
pub mod Told
pub mod Claims
