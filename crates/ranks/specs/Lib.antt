-- The definitions that the contracts of `ranks` cite.
pub mod Ranks
pub mod Parts
