-- The definitions that the contracts cite, and examples.
pub mod Defaults
pub mod RangeLines
pub mod Lines
pub mod Parts
pub mod Examples
