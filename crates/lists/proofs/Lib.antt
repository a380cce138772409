-- What the proofs share.
pub mod Chains
pub mod Stores
pub mod Walks
pub mod Walking
