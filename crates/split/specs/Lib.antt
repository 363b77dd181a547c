-- The definition that the contract of `split` cites, and examples of it from document 01 and for request 4.
pub mod Split
pub mod Parts
pub mod Examples
