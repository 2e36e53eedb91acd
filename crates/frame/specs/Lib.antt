pub mod Frames
pub mod Accepting
pub mod Recorded
