-- What the record program's parts ask and leave.
pub mod Answering
