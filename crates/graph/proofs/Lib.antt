-- What the proofs share.
pub mod Sides
pub mod Places
pub mod Standing
pub mod Reading
pub mod Staying
pub mod Along
pub mod Reducing
pub mod Removing
pub mod Answering
pub mod LinksIn
