-- How lent slices stand for a witness search, and what the functions promise of it.
pub mod Labels
pub mod Turns
pub mod Searching
pub mod Promises
