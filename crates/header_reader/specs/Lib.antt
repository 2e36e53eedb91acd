pub mod Reading
pub mod Accepting
