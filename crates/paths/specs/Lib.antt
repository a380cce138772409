-- What climbing asks and leaves.
pub mod Climbs
