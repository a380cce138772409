-- What rounds ask and leave.
pub mod Rounds
