pub mod Digits
pub mod Lines
pub mod Packing
pub mod Pieces
pub mod Promises
