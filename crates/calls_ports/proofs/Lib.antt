pub mod Said
pub mod Stepped
pub mod Slots
