-- Laws of paths, and of tables that keep the promise.
pub mod Paths
pub mod Places
pub mod Agreement
pub mod Cut
