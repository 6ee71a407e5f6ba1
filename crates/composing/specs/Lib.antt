-- A deposit, and what composing answers; then the text that a deposit is made of, and what it is to read it.
pub mod Deposit
pub mod Composed
pub mod Told
pub mod Text
pub mod Reading
