-- What `each_once` tests.
pub mod Once
