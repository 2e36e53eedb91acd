pub mod Tallies
pub mod Lines
pub mod Rooms
pub mod Recordings
