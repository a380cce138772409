-- What the proofs share.
pub mod Neighbours
pub mod Columns
pub mod Rows
pub mod Accepted
