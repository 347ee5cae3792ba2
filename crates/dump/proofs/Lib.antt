pub mod Framing
pub mod Accepted
