pub mod Given
pub mod Rows
