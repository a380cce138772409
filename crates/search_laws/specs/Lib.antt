-- What the code of the search keeps.
pub mod Paid
