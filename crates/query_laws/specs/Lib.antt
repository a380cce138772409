-- What a query must answer, what it brings, and what its searches keep.
pub mod LeastWalk
pub mod Accepted
pub mod Sound
