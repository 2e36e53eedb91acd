pub mod Checks
pub mod Lists
pub mod Parts
pub mod Written
pub mod Reasons
