pub mod Frames
pub mod Streaming
pub mod Scanning
pub mod Keeping
pub mod Putting
pub mod Numbers
pub mod States
pub mod Worked
