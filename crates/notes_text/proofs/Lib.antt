pub mod Long
pub mod Noting
pub mod Walking
pub mod Few
