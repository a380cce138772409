-- What the functions ask and promise.
pub mod Promises
pub mod Lent
