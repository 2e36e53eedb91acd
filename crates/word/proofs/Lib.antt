pub mod Multiples
pub mod Degrees
pub mod Valids
pub mod Nearest
pub mod Division
pub mod Rows
pub mod Answer
pub mod Turns
