-- Laws of unpacking.
pub mod Opened
