-- The definitions that the contracts of `layers` and of the crates above cite.
pub mod Parts
