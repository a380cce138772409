-- What the proofs share.
pub mod Filling
pub mod Keeping
