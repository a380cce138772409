-- What the tests decide.
pub mod Measures
pub mod Lent
