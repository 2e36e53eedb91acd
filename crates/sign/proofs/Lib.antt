pub mod Spelling
pub mod Agreeing
