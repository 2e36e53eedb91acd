pub mod Examples
pub mod Zeros
pub mod Changes
pub mod Unsigned
pub mod PowerRows
