pub mod Marked
pub mod Pieces
pub mod Scanning
pub mod Reports
