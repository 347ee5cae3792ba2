pub mod Laying
pub mod Spelling
pub mod Following
pub mod Putting
pub mod Hexing
