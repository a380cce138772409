-- Paths and walks, and what is promised of them.
pub mod Paths
pub mod Walks
pub mod Promise
pub mod Agreement
