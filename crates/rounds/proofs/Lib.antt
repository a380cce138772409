-- Laws of rounds.
pub mod Going
