-- What gathering asks and leaves.
pub mod Gathering
