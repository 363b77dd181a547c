-- The definitions that the contracts cite.
pub mod Lines
pub mod Reading
pub mod Rest
