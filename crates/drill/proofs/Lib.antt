-- Statement 3 and what it is proved from: the laws of one step, of the opening, and of a list.
pub mod Laws
pub mod Order
pub mod Calls
pub mod Defaults
pub mod OnePool
pub mod Runs
pub mod Opening
pub mod Theorem
