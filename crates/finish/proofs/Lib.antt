-- What the proofs share.
pub mod Seeking
pub mod Opening
pub mod Finishing
pub mod Ending
