-- How a lent slice stands for a heap, and what the functions promise of it. A caller needs no `Gaps`.
pub mod Items
pub mod Shape
pub mod Promises
pub mod Gaps
