-- The laws that the proofs of `layers` and of the crates above cite.
pub mod Calls
