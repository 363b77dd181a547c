-- The definitions that the contracts of `requirements` cite.
pub mod Requirements
pub mod Parts
pub mod Examples
