pub mod Checked
pub mod Rising
pub mod Claims
