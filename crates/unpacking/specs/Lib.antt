pub mod Lines
pub mod Unpacking
