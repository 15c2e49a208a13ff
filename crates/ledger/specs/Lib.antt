pub mod Ledger
pub mod Bench
