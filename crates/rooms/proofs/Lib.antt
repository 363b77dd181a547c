-- The laws that the proofs of `rooms` and of the crates above cite.
pub mod Places
pub mod Shares
