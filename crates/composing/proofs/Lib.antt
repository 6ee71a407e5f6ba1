-- What fits into a deposit; its numbers; then lines and whole texts that are read.
pub mod Fitting
pub mod Numbers
pub mod Lines
pub mod Whole
