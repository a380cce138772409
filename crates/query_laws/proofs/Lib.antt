-- The query's half of the third demand, and what else holds of queries, from the bottom up.
pub mod Unpacking
pub mod Walks
pub mod Offers
pub mod State
pub mod Taken
pub mod Turns
pub mod Accepted
pub mod Answers
pub mod Bounds
pub mod Chains
pub mod Least
pub mod Half
