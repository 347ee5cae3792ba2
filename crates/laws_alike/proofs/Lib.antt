pub mod Words
pub mod Reading
pub mod Steps
pub mod Ledgers
pub mod Alike
