-- Laws of ends.
pub mod Steps
