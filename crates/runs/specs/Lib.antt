pub mod Acts
pub mod Runs
pub mod Pairs
pub mod Law
pub mod Worked
