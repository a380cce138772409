-- What the proofs share.
pub mod Laid
pub mod Ranking
pub mod Running
