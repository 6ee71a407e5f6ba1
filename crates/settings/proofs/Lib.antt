-- From digits to numbers, to a text under a word, to the whole line.
pub mod Digits
pub mod Numerals
pub mod Words
pub mod Lines
