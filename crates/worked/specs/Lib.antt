-- The worked tables first, then the order of contributions.
pub mod Tables
pub mod Order
