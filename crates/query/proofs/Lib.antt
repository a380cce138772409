-- Laws of the rows and of what is handed back.
pub mod FirstMet
pub mod Handing
pub mod Found
pub mod Outcome
