-- What a range that nothing refuses gives, and the theorem that each loss in it falls between its ends.
pub mod Ranged
pub mod Theorem
