-- What a list of drill calls does, what is counted of it, and statement 3.
pub mod Drill
pub mod Counting
pub mod Statement
