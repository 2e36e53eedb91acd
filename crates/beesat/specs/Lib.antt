pub mod Tables
pub mod Answers
pub mod Reading
pub mod Accepting
pub mod Writing
pub mod Inside
