pub mod Descending
pub mod NeedLaws
pub mod Falling
pub mod Adding
