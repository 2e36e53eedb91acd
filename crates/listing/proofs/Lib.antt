pub mod Streaming
pub mod Taking
pub mod Scanning
pub mod Keeping
pub mod Frames
pub mod AsSheet
pub mod SheetListing
pub mod Worked
