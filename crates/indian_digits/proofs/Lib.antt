-- The laws that the proofs cite.
pub mod Commas
pub mod Theorems
