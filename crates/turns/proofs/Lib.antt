-- Laws of a turn.
pub mod Settling
pub mod Reading
pub mod Turning
