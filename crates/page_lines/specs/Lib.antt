pub mod Names
pub mod Values
pub mod Counting
pub mod Lines
pub mod Rooms
