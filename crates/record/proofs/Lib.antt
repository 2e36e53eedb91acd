pub mod Cuts
pub mod Splitting
pub mod Stays
pub mod Walking
pub mod Scanning
