pub mod Records
pub mod Lanes
pub mod Counts
