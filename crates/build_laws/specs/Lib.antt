-- What the build keeps at every rank.
pub mod Runs
