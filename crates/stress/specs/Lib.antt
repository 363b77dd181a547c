-- The definitions that the contracts of `stress` cite.
pub mod Figures
pub mod Stress
pub mod Parts
pub mod Preceding
