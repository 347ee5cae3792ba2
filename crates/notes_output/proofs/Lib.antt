pub mod Telling
pub mod Answering
pub mod Claims
