pub mod Data
pub mod Claims
