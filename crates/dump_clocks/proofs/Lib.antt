pub mod Places
pub mod Paced
