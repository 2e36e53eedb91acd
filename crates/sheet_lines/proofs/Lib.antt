pub mod Joining
pub mod Putting
pub mod Loops
pub mod Alike
pub mod Worked
