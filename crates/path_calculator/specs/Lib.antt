-- What the search of a query asks and leaves.
pub mod Searching
