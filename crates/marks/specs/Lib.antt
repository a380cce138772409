-- A hierarchy by its columns.
pub mod Tables
pub mod Lent
