pub mod Parts
pub mod CallsInRange
