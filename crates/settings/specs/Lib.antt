-- The grammar of the settings line first, then what it is to read it, and the layout that it asks for.
pub mod Line
pub mod Reading
pub mod Asked
