pub mod Counting
pub mod Putting
pub mod Searching
pub mod Worked
