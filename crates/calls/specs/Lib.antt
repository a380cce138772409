-- The demands, stated of the calls' contracts.
pub mod Calls
