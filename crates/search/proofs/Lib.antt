-- What the proofs share, and what a caller may cite: `Laws` and `Walks` first.
pub mod Labels
pub mod Turns
pub mod Crossing
pub mod Offers
pub mod Rows
pub mod Nodes
pub mod Takes
pub mod Runs
pub mod Answers
pub mod Laws
pub mod Walks
