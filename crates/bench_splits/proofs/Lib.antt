-- The laws of the old split's turns.
pub mod Turns
