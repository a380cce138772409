-- What the proofs share, and what a caller may cite: `Laws` first.
pub mod Order
pub mod Sorted
pub mod Stride
pub mod Steps
pub mod Slice
pub mod Ends
pub mod Laws
