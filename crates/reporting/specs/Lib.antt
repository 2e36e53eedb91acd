pub mod Texts
pub mod Takings
pub mod Promises
pub mod Searches
