-- The definitions that the contracts of `figures` and of the crates above cite.
pub mod Figures
