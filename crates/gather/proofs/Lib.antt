-- Laws of gathering.
pub mod Columns
