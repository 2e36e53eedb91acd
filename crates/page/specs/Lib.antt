pub mod Bytes
pub mod Rows
pub mod Fields
pub mod Payload
