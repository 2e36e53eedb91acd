pub mod Payloads
pub mod Rules
pub mod Bounds
pub mod Writing
