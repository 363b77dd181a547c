-- The laws that the proofs cite.
pub mod Cutting
pub mod Theorems
