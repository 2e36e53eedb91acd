pub mod Taking
pub mod Streaming
pub mod Scanning
