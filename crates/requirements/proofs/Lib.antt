-- The laws that the proofs of `requirements` cite.
pub mod Sharing
