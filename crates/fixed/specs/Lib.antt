-- What the bytes of the lists say.
pub mod Front
