-- What the proofs share.
pub mod Closing
pub mod Passing
pub mod Outcome
