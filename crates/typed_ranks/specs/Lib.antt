-- The definitions that the contracts cite.
pub mod TypedRanks
pub mod Pools
