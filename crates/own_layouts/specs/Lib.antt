-- The definitions of the crate, in the order in which they are read, and the proof of the law that its layout owes.
pub mod Districts
pub mod Places
pub mod Lawful
