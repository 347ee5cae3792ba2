pub mod Times
pub mod Linear
pub mod Return
pub mod Prime
pub mod Registers
pub mod Ticks
pub mod Beside
