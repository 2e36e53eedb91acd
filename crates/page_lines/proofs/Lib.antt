pub mod Signs
pub mod RowTables
pub mod Shown
pub mod Putting
pub mod Rowing
pub mod Records
pub mod Decimals
pub mod Worked
