pub mod Crc
pub mod Crc5
pub mod Halves
pub mod Steps
pub mod Around
