-- What writing asks and leaves.
pub mod Wrote
