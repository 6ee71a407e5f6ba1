-- The lemmas of the crate, for its own proofs and for those of the crates above.
pub mod SumBelow
pub mod CountAmong
pub mod Among
