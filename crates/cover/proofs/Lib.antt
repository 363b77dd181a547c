-- The laws that the proofs of `cover` cite.
pub mod Sums
pub mod Blocks
pub mod Pass
