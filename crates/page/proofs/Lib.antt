-- The laws that the proofs cite, and the theorem.
pub mod Rows
pub mod Blank
pub mod Theorem
