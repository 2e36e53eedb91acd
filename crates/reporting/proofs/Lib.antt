pub mod Telling
pub mod Fronts
pub mod LineByLine
pub mod Whole
