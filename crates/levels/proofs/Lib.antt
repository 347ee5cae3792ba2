pub mod Laws
pub mod OneIndex
