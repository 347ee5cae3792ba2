pub mod Marks
pub mod Choices
