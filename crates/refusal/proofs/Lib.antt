-- The laws of answers and refusals, which callers cite.
pub mod Laws
