-- The laws of records and sheets, which callers cite.
pub mod Laws
pub mod Records
mod Reading
