-- The definitions that the contracts of `pools` and of the crates above cite.
pub mod Pools
pub mod Examples
pub mod Parts
