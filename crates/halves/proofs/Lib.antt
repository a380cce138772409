-- Laws of labels, offers, relaxing and entering.
pub mod Labels
pub mod Relaxing
pub mod Entering
pub mod Slices
