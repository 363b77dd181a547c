-- Theorems, applied to the worked examples.
pub mod RaisedLoss
pub mod Ranges
