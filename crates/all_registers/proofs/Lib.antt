pub mod Loading
pub mod InRange
