-- From digits to lines, from lines to pages, and from pages back to what they show.
pub mod Lines
pub mod Pages
pub mod Reading
