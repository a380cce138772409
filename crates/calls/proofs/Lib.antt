-- The demands of the calls, from those of the definitions.
pub mod Calls
