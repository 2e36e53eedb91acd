pub mod Walking
pub mod Feeding
pub mod Scanning
pub mod Moving
pub mod Keeping
