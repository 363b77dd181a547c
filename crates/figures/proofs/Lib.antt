-- The laws that the proofs of `figures` and of the crates above cite.
pub mod Figures
pub mod Made
