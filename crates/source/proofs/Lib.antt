pub mod Growing
pub mod Lanes
pub mod Totals
pub mod Counts
