-- The definitions of the crate, in the order in which they are read, and the proofs of the laws that its layouts owe.
pub mod Shape
pub mod Answers
pub mod Layouts
pub mod Places
pub mod Copied
pub mod Blank
pub mod Admission
pub mod Gridded
pub mod Listed
