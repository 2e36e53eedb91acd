pub mod Passes
pub mod Lines
pub mod Rooms
pub mod Files
pub mod Promises
