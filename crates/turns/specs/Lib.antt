-- What a turn asks and leaves.
pub mod Turning
