-- The definitions that the contracts of `rooms` and of the crates above cite.
pub mod Rooms
pub mod Parts
