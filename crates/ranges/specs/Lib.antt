-- The definitions that the contracts of `ranges` and of the crates above cite, and what its theorem says.
pub mod Ranges
pub mod Between
pub mod Parts
