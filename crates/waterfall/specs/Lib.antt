-- The definitions that the contracts of `waterfall` cite.
pub mod Register
pub mod Inside
pub mod Opening
pub mod Reply
pub mod Default
pub mod Pools
pub mod Pockets
pub mod Calls
pub mod View
pub mod Parts
