-- What of the tables rule 2 writes.
pub mod Laid
pub mod Lent
-- What the functions ask and promise.
pub mod Promises
