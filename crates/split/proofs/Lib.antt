-- The laws of the split, which callers cite.
pub mod Laws
