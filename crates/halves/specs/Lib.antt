-- How labels and a heap in lent slices stand for one side's search of a query, and what the functions promise.
pub mod Labels
pub mod Promises
pub mod Slices
