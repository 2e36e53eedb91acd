pub mod CallSigns
pub mod Calls
