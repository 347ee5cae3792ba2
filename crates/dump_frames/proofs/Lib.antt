pub mod Loading
pub mod Few
pub mod Playing
