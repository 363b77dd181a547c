-- Document 01's worked examples as one fact, the page of its first default, defaults with several pools, a loss that is raised, and ranges of losses.
pub mod Drills
pub mod Worked
pub mod Page
pub mod Pools
pub mod RaisedLoss
pub mod Ranges
