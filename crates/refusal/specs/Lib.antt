-- The refusals by number, and what a refusal makes of an answer.
pub mod Refusal
