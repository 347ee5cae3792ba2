pub mod Cases
pub mod InOrder
pub mod InRange
