-- Laws of the preparation graph and of searches over it.
pub mod Graphs
pub mod Searches
pub mod Bounds
