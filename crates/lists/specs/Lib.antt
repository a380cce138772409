-- Lists of arcs through a lent pool.
pub mod Memory
pub mod Steps
pub mod Walks
pub mod Promises
