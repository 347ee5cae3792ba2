pub mod Accepted
pub mod Sampling
pub mod Blocking
