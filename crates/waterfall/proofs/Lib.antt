-- The laws that the proofs of `waterfall` and the crates above cite.
pub mod Default
pub mod Growth
pub mod Given
pub mod Pooled
pub mod Pockets
pub mod Answer
pub mod Placing
pub mod Entered
pub mod OnePool
