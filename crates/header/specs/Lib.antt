pub mod Fields
pub mod Rules
pub mod Answers
pub mod Patterns
pub mod Writing
pub mod HalfWidths
