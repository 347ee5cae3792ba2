pub mod Ticks
pub mod Ends
pub mod OneTick
