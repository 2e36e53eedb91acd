pub mod Records
pub mod Moves
pub mod Walks
