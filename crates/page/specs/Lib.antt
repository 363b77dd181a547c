-- The definitions that the contracts cite.
pub mod Page
pub mod Parts
