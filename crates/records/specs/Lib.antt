-- What reading records says.
pub mod Kinds
pub mod Onward
