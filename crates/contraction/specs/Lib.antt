-- What is given, and how far the tables are laid.
pub mod Ranks
pub mod Lent
-- What the functions ask and promise.
pub mod Promises
