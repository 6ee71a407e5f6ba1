pub mod Standing
pub mod Events
pub mod Cells
pub mod Records
pub mod Sheets
pub mod Trying
pub mod Calls
