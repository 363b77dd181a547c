-- The definitions that the contracts of `sizing` cite, and document 01's examples of them.
pub mod Fund
pub mod Sizing
pub mod Parts
pub mod Review
pub mod Examples
