pub mod Said
pub mod Stepped
