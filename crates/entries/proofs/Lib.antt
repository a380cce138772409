-- What the proofs share.
pub mod Writing
pub mod Laying
pub mod Keeping
