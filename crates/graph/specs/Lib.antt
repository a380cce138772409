-- How a lent pool stands for a preparation graph, and what the functions promise of it.
pub mod Stands
pub mod Promises
