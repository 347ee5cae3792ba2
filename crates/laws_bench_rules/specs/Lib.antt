pub mod Setups
pub mod Table
