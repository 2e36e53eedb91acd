pub mod Sheets
pub mod Histories
