-- The build's half of the third demand, and what else holds of builds, from the bottom up.
pub mod Contraction
pub mod Levels
pub mod Runs
pub mod Starts
pub mod BuiltTables
pub mod Room
pub mod Promised
pub mod Refused
pub mod Enough
pub mod Pools
pub mod Laws
