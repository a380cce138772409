pub mod Rows
pub mod Pairs
pub mod Going
pub mod Outcome
pub mod Each
