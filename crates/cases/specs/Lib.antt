-- How much a case hands over.
pub mod Handed
