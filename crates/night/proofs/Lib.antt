pub mod Turning
pub mod Reporting
