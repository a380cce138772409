-- How lent columns stand for the tables of a hierarchy, and what is asked of them.
pub mod Lent
pub mod Shapes
