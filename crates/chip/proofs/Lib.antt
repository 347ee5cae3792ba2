pub mod InRange
pub mod ByParts
