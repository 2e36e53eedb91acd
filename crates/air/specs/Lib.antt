pub mod Air
pub mod WordRepairs
pub mod Closeness
pub mod Flips
pub mod Lanes
