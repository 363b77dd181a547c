-- The laws of stress records, which callers cite.
pub mod Laws
