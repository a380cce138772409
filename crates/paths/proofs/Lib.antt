-- Laws of climbing.
pub mod Chains
