-- The lemmas of the crate, for its own proofs and for those of the crates above.
pub mod Answered
pub mod Values
pub mod Kept
