-- The theorem that a larger loss charges each layer and each member at least as much.
pub mod Theorem
