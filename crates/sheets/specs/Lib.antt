-- The definitions that the contracts of `sheets` cite.
pub mod Bytes
pub mod Lists
pub mod Parts
pub mod Members
pub mod Sheet
pub mod Columns
