pub mod Lines
pub mod Streaming
pub mod Scanning
