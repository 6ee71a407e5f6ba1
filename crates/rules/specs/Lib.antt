-- The definitions of the crate, in the order in which they are read, and the proofs of the laws that its rules owe.
pub mod Largest
pub mod Needs
pub mod Telling
pub mod Told
pub mod Examples
pub mod NeedLaws
pub mod Descending
