-- The laws that the proofs of `pools` and of the crates above cite.
pub mod Sums
pub mod Laws
pub mod Turns
pub mod Charging
