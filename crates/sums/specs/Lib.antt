-- The definitions of the crate, in the order in which they are read.
pub mod Sums
pub mod Laws
