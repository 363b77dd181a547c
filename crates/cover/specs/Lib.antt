-- The definitions that the contracts of `cover` cite.
pub mod Figures
pub mod Cover
pub mod Parts
pub mod Examples
