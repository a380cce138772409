-- What the proofs share.
pub mod Pairs
pub mod OutArcs
pub mod InArcs
