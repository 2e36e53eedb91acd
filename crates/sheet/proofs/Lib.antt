pub mod Offering
pub mod Refusals
pub mod Counted
pub mod Running
pub mod Replay
pub mod History
pub mod LaneFrames
pub mod Tallies
