-- Laws of the table check.
pub mod Marks
pub mod Entries
pub mod Check
