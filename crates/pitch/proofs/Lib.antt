pub mod Fractions
pub mod Walk
pub mod Around
pub mod Dividing
pub mod Ranges
pub mod Lists
pub mod Answers
