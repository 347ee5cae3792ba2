pub mod Words
pub mod Standing
pub mod Step
pub mod Due
pub mod Given
pub mod Piece
pub mod Claims
pub mod Short
