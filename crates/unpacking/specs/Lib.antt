-- What unpacking asks and leaves.
pub mod Written
