-- The laws of charging by rank, which callers cite, and those of the marginal rank.
pub mod Laws
pub mod Parts
