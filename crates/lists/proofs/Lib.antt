-- Laws that the crates above cite.
pub mod Sums
pub mod Checks
pub mod Tests
pub mod Highest
pub mod Fill
pub mod Places
pub mod Cases
