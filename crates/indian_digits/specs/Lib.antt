-- The definitions that the contracts cite.
pub mod IndianDigits
pub mod Examples
pub mod Parts
