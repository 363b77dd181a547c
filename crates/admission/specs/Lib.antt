-- The definitions that the contracts of `admission` and of the crates above cite.
pub mod Admission
