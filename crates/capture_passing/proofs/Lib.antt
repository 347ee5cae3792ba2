pub mod Walking
pub mod Next
pub mod Listed
pub mod Free
