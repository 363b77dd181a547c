-- The definitions that the crates above share.
pub mod Limits
pub mod Sums
pub mod Checks
pub mod Highest
pub mod Texts
