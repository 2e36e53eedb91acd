pub mod Walks
pub mod Moves
pub mod Scans
pub mod Promises
