pub mod Drums
