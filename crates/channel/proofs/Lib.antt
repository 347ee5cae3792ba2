pub mod Laws
pub mod Outputs
