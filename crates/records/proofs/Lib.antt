-- Laws of records.
pub mod Reading
pub mod Onward
