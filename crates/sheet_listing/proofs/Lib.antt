pub mod TakenFrames
pub mod Walking
pub mod Keeping
pub mod Grown
pub mod SheetText
pub mod Taking
pub mod Changing
pub mod Opening
