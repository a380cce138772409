-- Ends as they are handed in.
pub mod Given
