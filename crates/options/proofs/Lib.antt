pub mod Parsing
pub mod Comparing
pub mod Asking
