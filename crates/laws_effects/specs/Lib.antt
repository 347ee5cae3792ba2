pub mod Claims
pub mod Ledger
pub mod Table
