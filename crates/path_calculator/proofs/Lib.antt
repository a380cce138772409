-- Laws of the search of a query.
pub mod Entered
