pub mod Words
pub mod Repairs
