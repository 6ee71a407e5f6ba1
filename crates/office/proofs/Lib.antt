-- The lemmas of the crate, in the order in which they are read.
pub mod Alike
pub mod Taking
pub mod Ways
pub mod Turns
