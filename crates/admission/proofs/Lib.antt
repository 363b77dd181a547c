-- The laws that the proofs of `admission` and of the crates above cite.
pub mod Passed
pub mod Ranked
pub mod Admitted
pub mod EachPool
