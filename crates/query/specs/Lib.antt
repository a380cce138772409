-- The rows of a query's refusals, in the parts that its code tests, and what it leaves.
pub mod Rows
pub mod Answers
pub mod Routes
pub mod Outcome
