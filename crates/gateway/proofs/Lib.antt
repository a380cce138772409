-- Laws of the record program.
pub mod Asking
pub mod Saying
pub mod Closing
pub mod Building
pub mod Limiting
pub mod Finishing
