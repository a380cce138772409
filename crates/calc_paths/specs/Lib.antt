-- Many routes after one check, as definitions, with cases; what the parts ask and leave; and what a call may leave.
pub mod Many
pub mod Filling
pub mod Outcome
pub mod Cases
